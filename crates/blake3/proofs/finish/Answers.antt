-- `blake3::finish` meets its contract: over the limit the refusal, otherwise the bytes of the words that the state gives.
use mathlib.Core.Path.{◌≡◌, ap, ◌∙◌}
use Prim.Native.Nat.{ℕ, ◌≤◌, ◌<◌, min}
use native.Mathlib.Omega.{arith}
use Rattle.reading.specs.Numbers.{word_bytes}
use Rattle.reading.specs.Answer.{found}
use Rattle.format.specs.Parts.{hash_limit}
use Rattle.hasher.specs.State.{capacity}
use Rattle.blake3.proofs.Whole.{finish-over, finish-within}
use Rattle.blake3.proofs.finish.Goals as goal

-- what `taken` reports is over the limit exactly if the state's fill is
more : (f : ℕ) {n : ℕ} → n ≡ min f capacity → hash_limit < n → hash_limit < f
more f e p = omega arith

no_more : (f : ℕ) {n : ℕ} → n ≡ min f capacity → n ≤ hash_limit → f ≤ hash_limit
no_more f e p = omega arith

pub returns-then-taken-gt-HASH_LIMIT : goal.returns-then-taken-gt-HASH_LIMIT
returns-then-taken-gt-HASH_LIMIT c = finish-over _ (more _ c.taken.ensures c.if-taken-gt-HASH_LIMIT.true)

pub returns : goal.returns
returns c =
    ap found (c.from_words.ensures ∙ ap word_bytes c.finish.ensures)
    ∙ finish-within _ (no_more _ c.taken.ensures c.if-taken-gt-HASH_LIMIT.false)
