-- `base::entry::step` meets its contract: what stands at the place is the table's next entry.
use Rattle.std.proofs.Common.{arith}
use Rattle.std.proofs.lemmas.Result.{err_from_is_err_and}
use Rattle.base.proofs.FileLookups.{step-ends}
use Rattle.base.proofs.Entries.{step_err, step_ok}
use Rattle.base.proofs.entry.step.Goals as goal

pub returns-then-t-eq0 : goal.returns-then-t-eq0
returns-then-t-eq0 g c = step-ends _ _ _ c.if-t-eq0.true

pub returns-in_err-entry : goal.returns-in_err-entry
returns-in_err-entry g c =
    let e = err_from_is_err_and c.from_residual.result c.from_residual.ensures.1 in
    rw (e.1, e.2) (step_err _ _ (g.met.E.Entry.stays _ _) _ (λ z. omega arith) _ c.in_err-entry.ensures)

pub returns : goal.returns
returns g c = step_ok _ _ (g.met.E.Entry.stays _ _) _ (λ z. omega arith) _ _ c.in_ok-entry.ensures
