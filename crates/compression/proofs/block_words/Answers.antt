-- `compression::block_words` meets its contract: the words are the table of the numbers in the block.
use Rattle.std.proofs.Common.{◌*◌, rules}
use Rattle.reading.specs.Numbers.{le_at}
use Rattle.compression.specs.Word.{words}
use Rattle.compression.proofs.Made.{made}
use Rattle.compression.proofs.block_words.Goals as goal

pub returns : goal.returns
unfolding words
returns c = made _ (λ i. le_at 4 c.args.b.now (4 * i)) _ (λ x r f' k. search rules) _ 16 c.from_fn.ensures.items
