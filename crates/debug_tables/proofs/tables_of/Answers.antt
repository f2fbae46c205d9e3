use Rattle.std.proofs.lemmas.Result.{err_from_is_err_and}
use Rattle.debug_tables.proofs.Rows.{read_short, none_done, row_stops, row_done}
use Rattle.debug_tables.proofs.tables_of.Goals as goal

pub returns-in_default : goal.returns-in_default
returns-in_default c = rw (← c.of-cut.ensures.same) (read_short _ c.in_default.ensures)

pub loop-row-init : goal.loop-row-init
loop-row-init c = rw c.all-tables.ensures (none_done _ _ c.in-Some.ensures)

pub returns-in_err-table : goal.returns-in_err-table
returns-in_err-table c =
    let l = c.loop-row in
    let e = err_from_is_err_and c.from_residual.result c.from_residual.ensures.1 in
    rw (e.1, e.2, ← c.of-cut.ensures.same)
    (row_stops _ _ _ _ _ l.invariant c.loop-row-test.true _ _ c.u16_at.ensures c.u32_at-size.ensures _ c.from-kind.ensures _ c.in_err-table.ensures)

pub loop-row-preserved : goal.loop-row-preserved
loop-row-preserved c =
    let l = c.loop-row in
    rw c.set-tables.ensures
    (row_done _ _ _ _ _ l.invariant c.loop-row-test.true _ _ c.u16_at.ensures c.u32_at-size.ensures _ c.from-kind.ensures _ _ c.in_ok-table.ensures)
