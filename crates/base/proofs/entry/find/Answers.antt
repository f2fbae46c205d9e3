-- `base::entry::find` meets its contract: those before the entry are passed over, then it is read.
use Rattle.std.proofs.lemmas.Result.{err_from_is_err_and}
use Rattle.base.proofs.Picked.{picked_out}
use Rattle.base.proofs.Entries.{find_stop, find_err, find_ok}
use Rattle.base.proofs.entry.find.Goals as goal

pub returns-then-t-k : goal.returns-then-t-k
returns-then-t-k g c = picked_out _ _ _ _ _ c.if-t-k.true

pub returns-in_err-at : goal.returns-in_err-at
returns-in_err-at g c =
    let e = err_from_is_err_and c.from_residual.result c.from_residual.ensures.1 in
    rw (e.1, e.2) (find_stop _ _ (g.met.E.Entry.stays _ _) _ _ _ c.if-t-k.false _ c.in_err-at.ensures)

pub returns-in_err-entry : goal.returns-in_err-entry
returns-in_err-entry g c =
    let e = err_from_is_err_and c.from_residual-in_err-entry.result c.from_residual-in_err-entry.ensures.1 in
    rw (e.1, e.2) (find_err _ _ (g.met.E.Entry.stays _ _) _ _ _ c.if-t-k.false _ c.in_ok-at.ensures _ c.in_err-entry.ensures)

pub returns : goal.returns
returns g c = find_ok _ _ (g.met.E.Entry.stays _ _) _ _ _ c.if-t-k.false _ c.in_ok-at.ensures _ _ c.in_ok-entry.ensures
