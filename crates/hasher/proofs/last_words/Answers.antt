-- `hasher::last_words` meets its contract: zeros after the end change no word.
use Rattle.std.proofs.Common.{◌≡◌, ℕ, ◌++◌, ◌-◌, length, drop, replicate, ◌∙◌}
use Rattle.reading.proofs.Parts.{drop-replicate}
use Rattle.compression.specs.Sizes.{block_len}
use Rattle.compression.specs.Word.{words}
use Rattle.compression.specs.Laws.{words-filled}
use Rattle.hasher.proofs.last_words.Goals as goal

pub returns : goal.returns
returns c =
    let s = c.args.s.now in
    let held : c.block_words-2.result ≡ words (s ++ drop (length s) (replicate block_len 0)) = rw c.copy_to.ensures at c.block_words-2.ensures in
    held ∙ rw (drop-replicate {A = ℕ} (length s) block_len 0) (words-filled s (block_len - length s))
