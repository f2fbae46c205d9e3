-- A section's part of the file, and a reader at work on it.
use mathlib.Core.Path.{◌≡◌, refl, sym, ap}
use mathlib.Core.Bool.{Bool, true, false}
use mathlib.Core.List.{List}
use Prim.Native.Nat.{ℕ, ◌+◌, ◌≤◌}
use lib.Dec.{leb}
use lib.ListN.{length}
use Rattle.reading.specs.Fault.{Fault}
use Rattle.reading.specs.Reader.{Reader}
use Rattle.reading.specs.Answer.{refused, found, ◌>>=◌, ◌>>◌, need, item_of}
use Rattle.format.specs.Faults.{too_long, section_size_mismatch}
use Rattle.format.specs.Parts.{limit, Place, cut, is_inside, Inside}
use Rattle.format.specs.Integrity.{section_in}
use Rattle.format.specs.Load.{read_in}
use Rattle.format.specs.Lookups.{read_at}
use Rattle.format.proofs.Answers.{never, same-found}
use Rattle.format.proofs.Places.{inside_is}
use Rattle.base.specs.Section.{section_part}

-- a place that is inside ends in the file
pub known_inside : (f : List ℕ) (p : Place) → is_inside f p ≡ true → p.offset + p.size ≤ length f
known_inside f p h = (inside_is f p h).within

module _ (f : List ℕ) (p : Place) where
  -- what reading at the place gives, by what the section's part of the file is
  pub record Placed {A : Type 0} (r : Reader A) (q : Place) : Type 0 where
    pub same : q ≡ p
    pub inside : Inside f p
    pub reads : read_at f p r ≡ item_of (r (cut f p))

  pub section-refused : {A : Type 0} (r : Reader A) (e : Fault) → refused e ≡ section_part f p → refused e ≡ read_at f p r
  unfolding section_part read_at read_in section_in
  section-refused r e h = go (leb (length f) limit) (is_inside f p) h
    where
      go : (y z : Bool) → refused e ≡ (need y too_long >> need z section_size_mismatch >> found p)
          → refused e ≡ (need y too_long >> ((need z section_size_mismatch >> found (cut f p)) >>= λ s. item_of (r s)))
      go true true h = never h
      go true false h = let k : e ≡ section_size_mismatch = cc in ap refused k
      go false z h = let k : e ≡ too_long = cc in ap refused k

  pub section-found : {A : Type 0} (r : Reader A) (q : Place) → found q ≡ section_part f p → Placed r q
  unfolding section_part read_at read_in section_in
  section-found r q h = go (leb (length f) limit) (is_inside f p) refl refl h
    where
      go : (y z : Bool) → leb (length f) limit ≡ y → is_inside f p ≡ z → found q ≡ (need y too_long >> need z section_size_mismatch >> found p) → Placed r q
      go true true a b h = record { same = same-found h; inside = inside_is f p b; reads = rw (a, b) }
      go true false a b h = never (sym h)
      go false z a b h = never (sym h)
