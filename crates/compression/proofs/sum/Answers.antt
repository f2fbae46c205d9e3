-- `compression::sum` meets its contract, word by word.
use Rattle.std.proofs.Common.{rules}
use Rattle.compression.specs.Word.{add32, table}
use Rattle.compression.specs.Compression.{at}
use Rattle.compression.specs.Rows.{sum}
use Rattle.compression.proofs.Made.{made}
use Rattle.compression.proofs.sum.Goals as goal

pub returns : goal.returns
unfolding sum table
returns c = made _ (λ i. add32 (at c.args.a i) (at c.args.b i)) _ (λ x r f' k. search rules) _ 4 c.from_fn.ensures.items
