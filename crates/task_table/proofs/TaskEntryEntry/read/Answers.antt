-- `TaskEntry::read` meets its contract: too few bytes, a type that is refused, or the task that stands there.
use Rattle.std.proofs.Common.{◌∙◌, ap, arith}
use Rattle.base.specs.Small.{task_type_of}
use Rattle.base.proofs.Entries.{read_short, read_err, read_ok}
use Rattle.format.proofs.Widths.{task-needs}
use Rattle.task_table.proofs.Entries.{task-stop, type-known}
use Rattle.std.proofs.lemmas.Result.{err_from_is_err_and}
use Rattle.task_table.proofs.TaskEntryEntry.read.Goals as goal

pub returns-then-left-lt-TASK_ENTRY_SIZE : goal.returns-then-left-lt-TASK_ENTRY_SIZE
returns-then-left-lt-TASK_ENTRY_SIZE c = read_short _ c.args.cut.bytes.now task-needs c.args.at (omega arith)

pub task_at-requires : goal.task_at-requires
task_at-requires c = (omega arith, type-known _ _ c.in_ok-task_type.ensures ∙ c.u8_at.ensures)

pub returns-in_err-task_type : goal.returns-in_err-task_type
returns-in_err-task_type c =
    let e = err_from_is_err_and c.from_residual.result c.from_residual.ensures.1 in
    let a = c.args in
    rw (e.1, e.2) (read_err _ a.cut.bytes.now a.at _ (task-stop a.cut.bytes.now a.at (omega arith) _ (c.in_err-task_type.ensures ∙ ap task_type_of c.u8_at.ensures)))

pub returns : goal.returns
returns c = read_ok _ _ c.args.at _ _ (omega arith) c.task_at.ensures
