-- `utf8::followed` meets its contract. Assumes nothing.
use mathlib.Core.Path.{refl}
use Prim.Native.Nat.{◌-◌}
use lib.ListN.{take, drop}
use borrow.Author.Rules.{rules}
use borrow.Author.Tests.{tests}
use Rattle.std.proofs.lemmas.Iterator.{YieldsList-from_slice}
use Rattle.std.proofs.lemmas.Iterator.Search.{all_from_yields_List}
use Rattle.utf8.specs.Utf8.{Range, ◌to◌, within}
use Rattle.utf8.proofs.Table.{tested, untested}
use Rattle.utf8.proofs.followed.Goals as goal
use Rattle.utf8.proofs.followed.Goals.{else-n-s-via-then-n-s+then-has+else-all, else-n-s-via-then-n-s+else-has, else-n-s-via-else-n-s}

abbrev trail : Range
trail = 0x80 to 0xBF

pub returns-then-all-clause-value : goal.returns-then-all-clause-value
returns-then-all-clause-value c =
    let a = c.args in
    let t = all_from_yields_List (within trail) _ _ c.all.result c.all.ensures.ran (YieldsList-from_slice (take (a.n - 2) (drop 2 a.s.now)) cc) (λ x b q k. search (rules, tests)) in
    rw (tested a.n (a.low to a.high) trail a.s.now _ _ c.if-n-s.true c.has.ensures t, c.if-has.true, c.if-all.true)

pub returns-else-n-s-clause-value : goal.returns-else-n-s-clause-value
returns-else-n-s-clause-value c =
    let a = c.args in
    elim c.else-n-s.branch [
      | else-n-s-via-then-n-s+then-has+else-all w ↦
          let t = all_from_yields_List (within trail) _ _ w.all.result w.all.ensures.ran (YieldsList-from_slice (take (a.n - 2) (drop 2 a.s.now)) cc) (λ x b q k. search (rules, tests)) in
          rw (tested a.n (a.low to a.high) trail a.s.now _ _ w.if-n-s.true w.has.ensures t, w.if-has.true, w.if-all.false)
      | else-n-s-via-then-n-s+else-has w ↦ rw (tested a.n (a.low to a.high) trail a.s.now _ _ w.if-n-s.true w.has.ensures refl, w.if-has.false)
      | else-n-s-via-else-n-s w ↦ rw (untested a.n (a.low to a.high) trail a.s.now c.requires w.if-n-s.false)
    ]
