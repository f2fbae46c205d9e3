-- `type_entries::table` meets its contract: the count, and the walk behind it.
use Rattle.std.proofs.Common.{arith}
use Rattle.std.proofs.lemmas.Result.{err_from_is_err_and}
use Rattle.reading.specs.Places.{stops_by, on_to}
use Rattle.type_entries.proofs.Entries.{table-short, table-walk}
use Rattle.type_entries.proofs.table.Goals as goal

pub returns-then-left-lt-COUNT_SIZE-clause-read : goal.returns-then-left-lt-COUNT_SIZE-clause-read
returns-then-left-lt-COUNT_SIZE-clause-read g c = table-short _ _ _ (omega arith)

pub returns-in_err-end-clause-read : goal.returns-in_err-end-clause-read
returns-in_err-end-clause-read g c =
    let e = err_from_is_err_and c.from_residual.result c.from_residual.ensures.1 in
    rw (e.1, e.2, ← c.requires.told c.in_err-end.field-0.0) (table-walk _ _ _ _ (g.met.E.Entry.stays _ _) (omega arith) c.u16_at.ensures (stops_by _) c.in_err-end.ensures)

pub returns-clause-read : goal.returns-clause-read
returns-clause-read g c = table-walk _ _ _ _ (g.met.E.Entry.stays _ _) (omega arith) c.u16_at.ensures (on_to _) c.in_ok-end.ensures
