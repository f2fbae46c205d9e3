-- Sections that lie inside a file.
use Prim.Native.Nat.{ℕ, ◌+◌, ◌-◌, ◌≤◌}
use native.Mathlib.Omega.{arith}
use mathlib.Core.Path.{◌≡◌, refl, sym}
use mathlib.Core.Bool.{Bool, true, false}
use mathlib.Core.List.{List, [], ◌∷◌}
use lib.Dec.{leb}
use lib.ListN.{length, take, drop}
use borrow.Author.Tests.{le-leb, leb-true, eq-eqb}
use Rattle.reading.specs.Reader.{Reader}
use Rattle.reading.specs.Answer.{found, item_of}
use Rattle.reading.proofs.Parts.{length_part}
use Rattle.format.specs.Parts.{Place, cut, is_inside, Inside, same, by_place}
use Rattle.format.specs.Integrity.{section_in}
use Rattle.format.specs.Load.{read_in}
use Rattle.format.proofs.Answers.{first_of, second-of}

pub is-inside : (f : List ℕ) (p : Place) → Inside f p → is_inside f p ≡ true
unfolding is_inside
is-inside f p h = rw (le-leb 256 p.offset h.behind, le-leb (p.offset + p.size) (length f) h.within)

pub inside_is : (f : List ℕ) (p : Place) → is_inside f p ≡ true → Inside f p
unfolding is_inside
inside_is f p e =
    record {
      behind = leb-true 256 p.offset (first_of (leb 256 p.offset) (leb (p.offset + p.size) (length f)) e);
      within = leb-true (p.offset + p.size) (length f) (second-of (leb 256 p.offset) (leb (p.offset + p.size) (length f)) e);
    }

pub outside : (f : List ℕ) (p : Place) → (Inside f p → ⊥) → is_inside f p ≡ false
outside f p h = go (is_inside f p) refl
  where
    go : (z : Bool) → is_inside f p ≡ z → z ≡ false
    go false e = refl
    go true e = absurd (h (inside_is f p e))

-- its part of the file has its size
pub length_cut : (f : List ℕ) (p : Place) → is_inside f p ≡ true → length (cut f p) ≡ p.size
length_cut f p e = length_part f p.offset p.size (inside_is f p e).within

pub section-is : (f : List ℕ) (p : Place) → is_inside f p ≡ true → section_in f p ≡ found (cut f p)
unfolding section_in
section-is f p h = rw h

pub read_is : {A : Type 0} (f : List ℕ) (p : Place) (r : Reader A) → is_inside f p ≡ true → read_in f p r ≡ item_of (r (cut f p))
unfolding read_in
read_is f p r h = rw (section-is f p h)

pub same_refl : (s : List ℕ) → same s s ≡ true
same_refl [] = refl
same_refl (a ∷ s) = rw (eq-eqb a a refl) (same_refl s)

-- a part of a section that is taken for a whole file: by its place it has its bytes
pub placed-alone : (s : List ℕ) (k n : ℕ) → k + n ≤ length s → take n (drop k s) ≡ cut s (by_place (record { offset = 0; size = length s }) (take n (drop k s)) (length s - k - n))
placed-alone s k n i =
    let m = length_part s k n i in
    let o : 0 + length s - (length s - k - n) - n ≡ k = omega arith in
    sym (rw (m, o))
