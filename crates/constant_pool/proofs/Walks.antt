-- A walk over the constants: the steps from the start on give the constants.
use mathlib.Core.Path.{◌≡◌, sym, ap, ◌∙◌}
use mathlib.Core.List.{List}
use Prim.Native.Nat.{ℕ}
use native.Mathlib.Omega.{arith}
use lib.ListN.{length}
use Rattle.reading.specs.Answer.{found, item_of}
use Rattle.reading.specs.Places.{left_of, walked}
use Rattle.reading.specs.declared.Table.{Table}
use Rattle.reading.proofs.Tables.{counted-stands}
use Rattle.reading.proofs.Left.{walk-gives}
use Rattle.format.specs.Parts.{Place, cut, by_place}
use Rattle.format.specs.Constants.{Constant, constant, constants}
use Rattle.format.proofs.Answers.{same-found, steps, item-got}
use Rattle.base.proofs.FileWalks.{opened, step-opened}
use Rattle.constant_pool.specs.Lookups.{pool_at, start_at}
use Rattle.constant_pool.specs.Laws.{Walk, Laws}
use Rattle.format.proofs.Leaves.{stays-constant}

steps-give : (p : Place) (s : List ℕ) (cs : List (Constant Place)) (t : Table) → item_of (constants (by_place p) s) ≡ found cs → record { at = 2; count = length cs } ≡ t
    → walked t.count (constant (by_place p)) s t ≡ found cs
unfolding constants
steps-give p s cs t e h =
    let r = constant (by_place p) in
    let g = item-got (constants (by_place p) s) cs e in
    let d = counted-stands r s 0 cs g.0 (omega arith) g.1 in
    walk-gives s r (stays-constant s (by_place p)) t cs d.rest (ap (left_of r s) (sym h) ∙ d.reads)

walk : (f : List ℕ) (p : Place) (t : Table) → start_at f p ≡ found t → Walk f p t
walk f p t e =
    let k = steps (pool_at f p) e in
    let o = opened f p (constants (by_place p)) k.item k.first in
    record {
      steps = step-opened f p (constants (by_place p)) k.item k.first (constant (by_place p));
      gives = steps-give p (cut f p) k.item t o.reads (same-found k.second) ∙ sym k.first;
    }

pub laws : Laws
laws = record { walk = walk }
