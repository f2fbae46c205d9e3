-- `compression::fold` meets its contract, word by word.
use Rattle.std.proofs.Common.{◌+◌, rules}
use Rattle.compression.specs.Word.{xor, table}
use Rattle.compression.specs.Compression.{at}
use Rattle.compression.proofs.Made.{made}
use Rattle.compression.proofs.fold.Goals as goal

pub returns : goal.returns
unfolding table
returns c = made _ (λ i. xor (at c.args.v i) (at c.args.v (i + 8))) _ (λ x r f' k. search rules) _ 8 c.from_fn.ensures.items
