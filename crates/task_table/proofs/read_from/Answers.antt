-- `task_table::read_from` meets its contract: the header, the walk over the tasks, and the programs behind them.
use Rattle.std.proofs.Common.{refl, ap, ◌∙◌, arith}
use Rattle.std.proofs.lemmas.Result.{err_from_is_err_and}
use Rattle.reading.proofs.Given.{goes_at}
use Rattle.reading.proofs.Left.{stays-local, stays-many}
use Rattle.base.specs.Answers.{way_by}
use Rattle.base.specs.Error.{fault_of}
use Rattle.base.proofs.Entries.{or_there}
use Rattle.format.proofs.Readers.{local-task, local-program}
use Rattle.task_table.proofs.Tables.{table-needs, table-stop, table-short, table-whole}
use Rattle.task_table.proofs.read_from.Goals as goal

pub returns-then-left-lt-TASK_TABLE_HEADER_SIZE : goal.returns-then-left-lt-TASK_TABLE_HEADER_SIZE
returns-then-left-lt-TASK_TABLE_HEADER_SIZE c = rw (← c.of-cut.ensures.same, table-needs c.of-cut.result.bytes.now (omega arith))

pub returns-in_err-p : goal.returns-in_err-p
returns-in_err-p c =
    let e = err_from_is_err_and c.from_residual.result c.from_residual.ensures.1 in
    let w = goes_at (stays-many _ _ (stays-local _ local-task)) _ c.in_err-p.ensures in
    rw (e.1, e.2, ← c.of-cut.ensures.same) (table-stop _ _ _ _ (omega arith) c.u16_at-tasks.ensures c.u16_at-programs.ensures c.u16_at-shared_globals_size.ensures _ w)

pub returns-in_err-ok_or : goal.returns-in_err-ok_or
returns-in_err-ok_or c =
    let e = err_from_is_err_and c.from_residual-in_err-ok_or.result c.from_residual-in_err-ok_or.ensures.1 in
    let w = goes_at (stays-many _ _ (stays-local _ local-task)) _ c.in_ok-p.ensures in
    let q = ap (way_by fault_of) c.in_err-ok_or.ensures.value ∙ or_there fault_of _ refl _ ∙ c.pass.ensures in
    rw (e.1, e.2, ← c.of-cut.ensures.same) (table-short _ _ _ _ (omega arith) c.u16_at-tasks.ensures c.u16_at-programs.ensures c.u16_at-shared_globals_size.ensures _ w _ (goes_at (stays-many _ _ (stays-local _ local-program)) _ q))

pub returns : goal.returns
returns c =
    let w = goes_at (stays-many _ _ (stays-local _ local-task)) _ c.in_ok-p.ensures in
    let q = ap (way_by fault_of) c.in_ok-ok_or.ensures.value ∙ or_there fault_of _ refl _ ∙ c.pass.ensures in
    rw (← c.of-cut.ensures.same) (table-whole _ _ _ _ (omega arith) c.u16_at-tasks.ensures c.u16_at-programs.ensures c.u16_at-shared_globals_size.ensures _ w _ (goes_at (stays-many _ _ (stays-local _ local-program)) _ q))
