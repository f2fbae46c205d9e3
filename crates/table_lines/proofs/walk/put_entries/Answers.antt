use Rattle.std.proofs.Common.{arith, refl}
use Rattle.lent.proofs.Fitting.{free-none}
use Rattle.table_lines.proofs.Walking.{left_end, left-none, left-stop, left-full, left-more}
use Rattle.table_lines.proofs.walk.put_entries.Goals as goal

pub returns-then-out-at : goal.returns-then-out-at
returns-then-out-at g c = free-none _ _ _ (omega arith) refl

pub returns-in_err-next-in-Ok-Some : goal.returns-in_err-next-in-Ok-Some
returns-in_err-next-in-Ok-Some g c =
    let e = rw c.in-Ok-Some.field-0-is at c.in-Ok-Some.ensures in
    rw c.from_residual.ensures (left-full c.loop-index.invariant c.loop-index-test.true e c.in_err-next-in-Ok-Some.ensures)

pub loop-index-preserved : goal.loop-index-preserved
loop-index-preserved g c =
    let e = rw c.in-Ok-Some.field-0-is at c.in-Ok-Some.ensures in
    left-more c.loop-index.invariant c.loop-index-test.true e c.in_ok-next-in-Ok-Some.ensures

pub returns-after-loop-index : goal.returns-after-loop-index
returns-after-loop-index g c = left_end c.loop-index.invariant (omega (arith, c.loop-index-test.false))

pub returns-in-Ok-None : goal.returns-in-Ok-None
returns-in-Ok-None g c = left-none c.loop-index.invariant (rw c.in-Ok-None.field-0-is at c.in-Ok-None.ensures)

pub returns-in-Err : goal.returns-in-Err
returns-in-Err g c = left-stop c.loop-index.invariant c.in-Err.ensures
