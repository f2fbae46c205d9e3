-- What a reader gives at a place, said by `Reads` and `Goes` and by an equation: one follows from the other.
use mathlib.Core.Path.{◌≡◌, refl, sym, ap, subst, ◌∙◌}
use mathlib.Core.List.{List}
use Prim.Native.Nat.{ℕ, ◌-◌, ◌≤◌}
use native.Mathlib.Omega.{arith}
use lib.ListN.{length, drop, length-drop}
use Rattle.reading.specs.Reader.{Read, fault, got, Reader}
use Rattle.reading.specs.Places.{Step, stops, item, Reads, step_given, step_at, Way, stops_by, on_to, Goes, way_given, way_at}
use Rattle.reading.proofs.Left.{left_at, left-again, Stays}

-- the bytes behind a place begin there
place-again : (s : List ℕ) (m : ℕ) → m ≤ length s → length s - length (drop m s) ≡ m
place-again s m h = omega (arith, length-drop m s)

-- for any reader
module _ {A : Type 0} (r : Reader A) (s : List ℕ) (at : ℕ) where
  pub step-at : (x : Step A) → Reads r s at x → x ≡ step_at r s at
  unfolding step_at
  step-at (stops f) g = rw g
  step-at (item a m) g = rw (g.1, place-again s m g.0)

  pub way-at : (w : Way) → Goes r s at w → w ≡ way_at r s at
  unfolding way_at
  way-at (stops_by f) g = rw g
  way-at (on_to m) g = rw (g.1.1, place-again s m g.0)

-- back, for a reader that leaves what is left of the section
module _ {A : Type 0} {r : Reader A} {s : List ℕ} (h : Stays s r) (at : ℕ) where
  -- what it leaves is what stands behind a place
  behind : (a : A) (rest : List ℕ) → r (drop at s) ≡ got a rest → (length s - length rest ≤ length s) × (r (drop at s) ≡ got a (drop (length s - length rest) s))
  behind a rest d = (omega arith, d ∙ ap (got a) (sym (left-again s rest (h.leaves (drop at s) a rest (left_at s at) d))))

  pub reads_at : {x : Step A} → x ≡ step_at r s at → Reads r s at x
  unfolding step_at
  reads_at e = subst (λ y. Reads r s at y) (sym e) (go (r (drop at s)) refl)
    where
      go : (y : Read A) → r (drop at s) ≡ y → Reads r s at (step_given s y)
      go (fault f) d = d
      go (got a rest) d = behind a rest d

  pub goes_at : {w : Way} → w ≡ way_at r s at → Goes r s at w
  unfolding way_at
  goes_at e = subst (λ y. Goes r s at y) (sym e) (go (r (drop at s)) refl)
    where
      go : (y : Read A) → r (drop at s) ≡ y → Goes r s at (way_given s y)
      go (fault f) d = d
      go (got a rest) d = let b = behind a rest d in (b.0, (a, b.1))
