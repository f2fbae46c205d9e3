use Rattle.std.proofs.Common.{arith}
use Rattle.std.proofs.lemmas.Result.{err_from_is_err_and}
use Rattle.reading.proofs.Passing.{passed_none}
use Rattle.base.proofs.Entries.{skip_end, skip_err, skip_more}
use Rattle.base.proofs.entry.skip.Goals as goal

pub loop-init : goal.loop-init
loop-init g c = rw c.min-p.ensures (passed_none _ _ _ _ (omega arith))

pub returns-in_err-p : goal.returns-in_err-p
returns-in_err-p g c =
    let e = err_from_is_err_and c.from_residual.result c.from_residual.ensures.1 in
    rw (e.1, e.2) (skip_err _ _ (g.met.E.Entry.stays _ _) _ _ _ _ c.loop.invariant c.loop-test.true _ c.in_err-p.ensures)

pub loop-preserved : goal.loop-preserved
loop-preserved g c = skip_more _ _ (g.met.E.Entry.stays _ _) _ _ _ _ c.loop.invariant c.loop-test.true _ _ c.in_ok-p.ensures

pub returns : goal.returns
returns g c = skip_end _ _ (g.met.E.Entry.stays _ _) _ _ _ _ c.loop.invariant c.loop-test.false
