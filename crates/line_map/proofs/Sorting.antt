-- std's order of the keys is that of the entries, and std's answer over the rows is whether the entries are sorted.
use Prim.Native.Nat.{ℕ, zero, suc, ◌<◌}
use mathlib.Core.Bool.{Bool, true, false, ◌&&◌, ◌||◌, and-false}
use mathlib.Core.List.{List, [], ◌∷◌}
use mathlib.Core.Path.{◌≡◌, refl, sym, ◌∙◌}
use native.Mathlib.Numerals.{add-one}
use native.Mathlib.Omega.{arith}
use lib.Dec.{eqb, leb, ltb}
use lib.ListN.{length, get_or}
use Rattle.std.proofs.Common.{rules, tests, nat_cmp, Some}
use Rattle.std.specs.List.{IsAllAdjacentAnswer}
use Rattle.std.specs.Ordering.{partial_le, partial_ordering_then}
use Rattle.format.specs.Lines.{in_order, sorted}
use Rattle.line_map.specs.Map.{line_of, lines_of}

abbrev before : List ℕ → List ℕ → Bool
before a b = in_order (line_of a) (line_of b)

-- std's test of two keys
abbrev key_le : ℕ × ℕ → ℕ × ℕ → Bool
key_le = partial_le (λ x y. partial_ordering_then (Some (nat_cmp x.0 y.0)) (Some (nat_cmp x.1 y.1)))

key_le-is : (a b c d : ℕ) → key_le (a, b) (c, d) ≡ (ltb a c || (eqb a c && leb b d))
key_le-is a b c d = search (rules, tests)

abbrev rows_le : List ℕ → List ℕ → Bool
rows_le a b = key_le ((line_of a).function, (line_of a).offset) ((line_of b).function, (line_of b).offset)

rows_le-is : (a b : List ℕ) → rows_le a b ≡ before a b
rows_le-is a b = key_le-is (line_of a).function (line_of a).offset (line_of b).function (line_of b).offset

sorted-all : (rows : List (List ℕ)) → ((k : ℕ) → suc k < length rows → before (get_or rows k []) (get_or rows (suc k) []) ≡ true) → sorted (lines_of rows) ≡ true
unfolding sorted
sorted-all [] h = refl
sorted-all (a ∷ []) h = refl
sorted-all (a ∷ b ∷ rows) h = rw (h 0 (omega arith), sorted-all (b ∷ rows) (λ k l. h (suc k) (omega arith)))

sorted-not : (rows : List (List ℕ)) (k : ℕ) → suc k < length rows → before (get_or rows k []) (get_or rows (suc k) []) ≡ false → sorted (lines_of rows) ≡ false
unfolding sorted
sorted-not [] k h e = absurd (omega arith)
sorted-not (a ∷ []) k h e = absurd (omega arith)
sorted-not (a ∷ b ∷ rows) zero h e = rw e
sorted-not (a ∷ b ∷ rows) (suc k) h e = rw (sorted-not (b ∷ rows) k (omega arith) e, and-false)

pub sorted_by : (rows : List (List ℕ)) (r : Bool) → IsAllAdjacentAnswer (λ x y b. b ≡ rows_le x y) rows r → r ≡ sorted (lines_of rows)
sorted_by rows true h = sym (sorted-all rows (λ k l. rw (← add-one k) (sym (rows_le-is _ _) ∙ sym (h k [] (omega arith)))))
sorted_by rows false h = sym (sorted-not rows h.0 (omega (arith, h.1)) (rw (← add-one h.0) (sym (rows_le-is _ _) ∙ sym (h.2 []))))
