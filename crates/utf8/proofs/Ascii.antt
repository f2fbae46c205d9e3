-- How the test of a run of ASCII goes on by one more byte. Assumes nothing.
use mathlib.Core.Bool.{true, false, ◌&&◌, and-true, and-false, and_assoc}
use mathlib.Core.List.{List, [], ◌∷◌}
use mathlib.Core.Path.{◌≡◌, refl, sym, ◌∙◌}
use Prim.Native.Nat.{ℕ, zero, suc, ◌+◌, ◌≤◌, ◌<◌}
use mathlib.Core.Bool.{Bool}
use native.Mathlib.Nat.{not-suc-le-zero}
use native.Mathlib.Numerals.{add-one}
use native.Mathlib.Omega.{arith}
use lib.Dec.{eqb}
use lib.ListN.{length, get_or, replicate, length-replicate}
use borrow.Author.Tests.{le-leb, lt-leb, eqb-true, eqb-false, eq-eqb, ne_eqb}
use Rattle.utf8.specs.Utf8.{Range, ◌to◌, within, starts}
use Rattle.utf8.proofs.Table.{too_short}

-- a row of `n` bytes of ASCII
abbrev pub ascii : ℕ → List Range
ascii n = replicate n (0x00 to 0x7F)

pub near-end : (n : ℕ) (s : List ℕ) → length s < n → false ≡ starts (ascii n) s
near-end n s h =
    let m = length-replicate n (0x00 to 0x7F) in
    sym (too_short (ascii n) s (omega arith))

-- one more byte
one_more : (r : Range) (k : ℕ) (x : List ℕ) → k < length x → starts (replicate (suc k) r) x ≡ (starts (replicate k r) x && within r (get_or x k 0))
one_more r k [] h = absurd (not-suc-le-zero h)
one_more r zero (b ∷ x) h = and-true (within r b)
one_more r (suc k) (b ∷ x) h = rw (one_more r k x (omega arith)) (sym (and_assoc (within r b) (starts (replicate k r) x) (within r (get_or x k 0))))

one-more-at : (s : List ℕ) (k : ℕ) → k < length s → starts (ascii (k + 1)) s ≡ (starts (ascii k) s && within (0x00 to 0x7F) (get_or s k 0))
one-more-at s k h = rw (add-one k) (one_more (0x00 to 0x7F) k s h)

-- so the count `n` of the bytes of ASCII among the first `k` equals `k` exactly if the text starts with a run of `k`
eqb-more : (n k : ℕ) → eqb (n + 1) (k + 1) ≡ eqb n k
eqb-more n k = by_cases (eqb n k) refl
  where
    by_cases : (b : Bool) → eqb n k ≡ b → eqb (n + 1) (k + 1) ≡ b
    by_cases true e = eq-eqb (n + 1) (k + 1) (omega (arith, eqb-true n k e))
    by_cases false e = ne_eqb (n + 1) (k + 1) (λ q. eqb-false n k e (omega arith))

abbrev pub Counted : List ℕ → ℕ → ℕ → Type 0
Counted s k n = (n ≤ k) × (eqb n k ≡ starts (ascii k) s)

pub counted-more : (s : List ℕ) (k n m : ℕ) → k < length s → Counted s k n → get_or s k 0 ≤ 0x7F → m ≡ n + 1 → Counted s (k + 1) m
counted-more s k n m h c b e = (
  omega arith,
  rw (e, eqb-more n k, one-more-at s k h, le-leb 0 (get_or s k 0) (omega arith), le-leb _ _ b) (c.1 ∙ sym (and-true (starts (ascii k) s))),
)

pub counted-other : (s : List ℕ) (k n m : ℕ) → k < length s → Counted s k n → 0x7F < get_or s k 0 → m ≡ n → Counted s (k + 1) m
counted-other s k n m h c b e = (
  omega arith,
  rw (e, ne_eqb n (k + 1) (λ q. omega arith), one-more-at s k h, le-leb 0 (get_or s k 0) (omega arith), lt-leb _ _ b) (sym (and-false (starts (ascii k) s))),
)
