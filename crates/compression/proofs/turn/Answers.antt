-- `compression::turn` meets its contract, word by word.
use Rattle.std.proofs.Common.{rules}
use Rattle.compression.specs.Word.{rotr, xor, table}
use Rattle.compression.specs.Compression.{at}
use Rattle.compression.specs.Rows.{turn}
use Rattle.compression.proofs.Made.{made}
use Rattle.compression.proofs.turn.Goals as goal

pub returns : goal.returns
unfolding turn table
returns c = made _ (λ i. rotr c.args.n (xor (at c.args.a i) (at c.args.b i))) _ (λ x r f' k. search rules) _ 4 c.from_fn.ensures.items
