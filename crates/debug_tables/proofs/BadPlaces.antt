-- The place that the code tells is that of the definition.
use mathlib.Core.Path.{◌≡◌, refl, sym, ap, ◌∙◌}
use mathlib.Core.List.{List}
use mathlib.Core.Option.{none, some}
use Prim.Native.Nat.{ℕ, ◌-◌}
use lib.ListN.{length}
use Rattle.reading.specs.Fault.{Fault}
use Rattle.reading.specs.Reader.{Read, fault, got}
use Rattle.reading.specs.Answer.{refused, found, item_of}
use Rattle.format.specs.Parts.{by_bytes}
use Rattle.format.specs.Debug.{debug_tables}
use Rattle.format.proofs.Answers.{never}
use Rattle.requests.specs.BadPlace.{place_of, place_read, bad_place}
use Rattle.requests.proofs.BadPlace.{bad-places}
use Rattle.debug_text.specs.Answers.{debug_fault_of, fault_place}
use Rattle.debug_text.proofs.Places.{left-place}
use Rattle.debug_text.specs.declared.DebugFault.{DebugFault}
use Rattle.debug_text.specs.declared.DebugFault.TheVariants as debug_fault
use Rattle.debug_tables.specs.Starts.{debug_starts}
use Rattle.debug_tables.specs.SixTags.{DebugTables}
use Rattle.debug_tables.proofs.Standing as standing

stopped : {A : Type 0} (whole : ℕ) (x : Read A) (f : Fault) → item_of x ≡ refused f → place_read whole x ≡ place_of whole f
stopped whole (fault d) f e = let z : d ≡ f = cc in ap (place_of whole) z
stopped whole (got a rest) f e = never (sym e)

read : {A : Type 0} (whole : ℕ) (x : Read A) (a : A) → item_of x ≡ found a → place_read whole x ≡ none
read whole (fault d) a e = never e
read whole (got b rest) a e = refl

module _ (s : List ℕ) where
  fault-place : (f : Fault) → refused f ≡ item_of (debug_starts s) → bad_place s ≡ place_of (length s) f
  unfolding bad_place
  fault-place f e = stopped (length s) (debug_tables by_bytes s) f (standing.unreadable by_bytes s f (sym e))

  pub told-place : (e : DebugFault) → bad_place s ≡ place_of (length s) (debug_fault_of s e) → fault_place e ≡ bad_place s
  told-place debug_fault.Short k = sym k
  told-place (debug_fault.BadText p) k = ap some (sym (left-place s p ((bad-places s).has-place (length s - (length s - p)) k).text)) ∙ sym k

  pub placed : (e : DebugFault) → refused (debug_fault_of s e) ≡ item_of (debug_starts s) → fault_place e ≡ bad_place s
  placed e h = told-place e (fault-place (debug_fault_of s e) h)

  pub not-bad : (u : DebugTables) → found u ≡ item_of (debug_starts s) → none ≡ bad_place s
  unfolding bad_place
  not-bad u e = let q = standing.readable by_bytes s u (sym e) in sym (read (length s) (debug_tables by_bytes s) q.tables q.reads)
