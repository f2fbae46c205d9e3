-- `debug_tables::tables_of` meets its contract: a turn for each row, with its payload.
use Rattle.debug_tables.proofs.Rows.{RowsDone}
use Rattle.debug_tables.proofs.tables_of.Given as goal

abbrev pub invariant-loop-row : goal.invariant-loop-row
invariant-loop-row l = RowsDone l.cut.bytes.now l.rows l.p l.row-index l.tables
