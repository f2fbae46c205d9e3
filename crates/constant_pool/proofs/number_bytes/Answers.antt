-- `constant_pool::number_bytes` meets its contract: std's bytes are those of the definition.
use Rattle.std.proofs.Common.{◌∙◌}
use Rattle.reading.proofs.Le.{bytes_le_is}
use Rattle.constant_pool.proofs.number_bytes.Goals as goal

pub returns : goal.returns
returns c = c.to_le_bytes.ensures ∙ bytes_le_is 8 c.args.n
