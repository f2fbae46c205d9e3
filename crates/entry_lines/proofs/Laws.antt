-- The claims of `specs/Laws.antt`.
use Prim.Native.Nat.{ℕ}
use mathlib.Core.List.{List}
use mathlib.Core.Path.{◌≡◌, refl, ap}
use lib.ListN.{length}
use borrow.Author.Tests.{le-leb}
use Rattle.format.specs.Parts.{cut}
use Rattle.format.specs.Constants as format
use Rattle.format.specs.Constants.{string, on_kept, on_constant}
use Rattle.base.specs.Section.{bytes_of}
use Rattle.base.specs.Small.{const_type_number}
use Rattle.constant_pool.specs.Answers.{const_in, kept_in, KeptEnds}
use Rattle.constant_pool.specs.declared.ConstEntry.{ConstEntry}
use Rattle.constant_pool.specs.declared.Kept.{Kept}
use Rattle.constant_pool.specs.declared.Kept.TheVariants as kept
use Rattle.entry_lines.specs.Answers.{with_bytes}
use Rattle.entry_lines.specs.Laws.{Laws}

kept-is : (f : List ℕ) (k : Kept) → KeptEnds (length f) k → on_kept (bytes_of f) (kept_in k) ≡ on_kept (cut f) (kept_in k)
unfolding bytes_of
kept-is f (kept.Number n) h = refl
kept-is f (kept.Part p) h = ap string (rw (le-leb _ _ h))

constants : (f : List ℕ) (c : ConstEntry) → KeptEnds (length f) c.kept → with_bytes f c ≡ on_constant (cut f) (const_in c)
constants f c h = ap (λ (k : format.Kept (List ℕ)). record { kind = const_type_number c.const_type; kept = k }) (kept-is f c.kept h)

pub laws : Laws
laws = record { constants = constants }
