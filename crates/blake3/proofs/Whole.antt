-- Feeding an input and finishing gives the same as hashing it: its BLAKE3 digest, or 10 if it is too long.
use mathlib.Core.Path.{◌≡◌, sym, ap, ◌∙◌}
use mathlib.Core.List.{List, [], ◌∷◌, append-nil}
use mathlib.Core.Logic.{⊎_elim}
use Prim.Native.Nat.{ℕ, ◌≤◌, ◌<◌, min}
use native.Mathlib.Nat.{zero-add}
use native.Mathlib.Omega.{arith}
use lib.ListN.{length}
use borrow.Author.Tests.{le-leb, lt-leb}
use Rattle.reading.specs.Numbers.{word_bytes}
use Rattle.reading.specs.Answer.{refused, found}
use Rattle.format.specs.Faults.{too_long}
use Rattle.format.specs.Parts.{hash_limit}
use Rattle.hasher.specs.Hash.{hash_words}
use Rattle.hasher.specs.State.{start, capacity, fill, fed, finished}
use Rattle.hasher.specs.declared.Hasher.{Hasher}
use Rattle.hasher.proofs.Laws.{laws}
use Rattle.hasher.proofs.Stacking.{lt-or-le}
use Rattle.blake3.specs.Blake3.{blake3, hash_asked, finish_asked}

-- ---- the answers, by what was taken in

pub over : (bs : List ℕ) → hash_limit < length bs → refused too_long ≡ hash_asked bs
unfolding hash_asked
over bs h = simp (lt-leb _ _ h)

pub within : (bs : List ℕ) → length bs ≤ hash_limit → found (blake3 bs) ≡ hash_asked bs
unfolding hash_asked
within bs h = simp (le-leb _ _ h)

pub finish-over : (h : Hasher) → hash_limit < fill h → refused too_long ≡ finish_asked h
unfolding finish_asked
finish-over h p = rw (lt-leb (fill h) hash_limit p)

pub finish-within : (h : Hasher) → fill h ≤ hash_limit → found (word_bytes (finished h)) ≡ finish_asked h
unfolding finish_asked
finish-within h p = rw (le-leb (fill h) hash_limit p)

-- ---- from the start

-- all bytes up to the capacity, which is above the limit
taken : (bs : List ℕ) → fill (fed start bs) ≡ min capacity (length bs)
taken bs = laws.fills start bs ∙ zero-add (min capacity (length bs))

digest : (bs : List ℕ) → length bs ≤ hash_limit → finished (fed start bs) ≡ hash_words bs
digest bs h = rw append-nil at (laws.digest (bs ∷ []) (rw append-nil (omega arith)))

pub whole : (bs : List ℕ) → finish_asked (fed start bs) ≡ hash_asked bs
whole bs =
    ⊎_elim
    (λ (p : hash_limit < length bs). sym (finish-over (fed start bs) (omega (arith, taken bs))) ∙ over bs p)
    (λ (p : length bs ≤ hash_limit). sym (finish-within (fed start bs) (omega (arith, taken bs))) ∙ ap found (ap word_bytes (digest bs p)) ∙ within bs p)
    (lt-or-le hash_limit (length bs))
