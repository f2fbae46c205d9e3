-- `task_table::find_program` meets its contract: the entry at an index of the table.
use Rattle.std.proofs.Common.{◌∙◌}
use Rattle.std.proofs.lemmas.Result.{err_from_is_err_and}
use Rattle.base.specs.Error.{fault_of}
use Rattle.base.proofs.Entries.{or_out}
use Rattle.task_table.specs.Answers.{program_in}
use Rattle.task_table.proofs.Tables.{program-is}
use Rattle.task_table.proofs.find_program.Goals as goal

pub returns-in_err-find_by_width : goal.returns-in_err-find_by_width
returns-in_err-find_by_width c =
    let e = err_from_is_err_and c.from_residual-in_err-find_by_width.result c.from_residual-in_err-find_by_width.ensures.1 in
    rw (e.1, e.2) (program-is _ _ c.in_ok-read_from.ensures _ _ λ xs rest d. c.in_err-find_by_width.ensures.indexes xs rest (rw c.program_entries-programs.ensures d) _)

pub returns : goal.returns
returns c = rw c.ok_or.ensures.value (program-is _ _ c.in_ok-read_from.ensures _ _ λ xs rest d. or_out fault_of program_in _ _ ∙ c.in_ok-find_by_width.ensures.indexes xs rest (rw c.program_entries-programs.ensures d) _)
