-- How long a line is, by how many digits its numbers have.
use Prim.Native.Nat.{ℕ, zero, suc, ◌+◌, ◌*◌, ◌/◌, ◌%◌, ◌<◌, ◌≤◌, ◌^◌}
use mathlib.Core.List.{List, [], ◌∷◌, ◌++◌}
use Prim.Native.Char.{code}
use native.Mathlib.Omega.{arith}
use native.Mathlib.Nat.{pow-succ'}
use lib.Dec.{ltb}
use lib.ListN.{length, length-append}
use Rattle.text.specs.Text.{ascii, digits, decimal, numbers, ended}
use Rattle.text.proofs.Parts.{digits-one, either-short, numbers_short}

-- a number below 10 to the power d has at most d digits
digits-few : (k d n : ℕ) → 0 < d → n < 10 ^ d → length (digits k n) ≤ d
unfolding digits
digits-few zero d n p h = omega arith
digits-few (suc k) zero n p h = absurd (omega arith)
digits-few (suc k) (suc zero) n p h = let e = digits-one k n (omega arith) in rw e (omega arith)
digits-few (suc k) (suc (suc d)) n p h =
    let ih = digits-few k (suc d) (n / 10) (omega arith) (omega (arith, pow-succ' 10 (suc d))) in
    either-short (ltb n 10) (suc (suc d)) _ _ (omega arith) (omega (arith, length-append (digits k (n / 10)) ((code "0" + n % 10) ∷ [])))

-- each number is below 10 to the power that stands for it
abbrev pub Few : List ℕ → List ℕ → Type 0
Few [] [] = Unit {0}
Few [] (d ∷ ds) = ⊥
Few (n ∷ ns) [] = ⊥
Few (n ∷ ns) (d ∷ ds) = (0 < d) × (n < 10 ^ d) × Few ns ds

-- a space before each number
abbrev pub spaced : List ℕ → ℕ
spaced [] = 0
spaced (d ∷ ds) = 1 + d + spaced ds

numbers-few : (ns ds : List ℕ) → Few ns ds → length (numbers ns) ≤ spaced ds
unfolding numbers
numbers-few [] [] h = omega arith
numbers-few [] (d ∷ ds) h = absurd h
numbers-few (n ∷ ns) [] h = absurd h
numbers-few (n ∷ ns) (d ∷ ds) h =
    omega (arith, digits-few 20 d n h.0 h.1, numbers-few ns ds h.2, length-append (ascii " " ++ decimal n) (numbers ns))

pub ended-few : (word ns end ds : List ℕ) → Few ns ds → length (ended word ns end) ≤ length word + spaced ds + length end
ended-few word ns end ds h = omega (arith, length-append (word ++ numbers ns) end, length-append word (numbers ns), numbers-few ns ds h)

-- of any numbers
pub ended-short : (word ns end : List ℕ) → length (ended word ns end) ≤ length word + 21 * length ns + length end
ended-short word ns end = omega (arith, length-append (word ++ numbers ns) end, length-append word (numbers ns), numbers_short ns)
