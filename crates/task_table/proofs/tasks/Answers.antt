-- `task_table::tasks` meets its contract: the counts say where the table is.
use Rattle.std.proofs.Common.{ap, ◌∙◌}
use Rattle.std.proofs.lemmas.Result.{err_from_is_err_and}
use Rattle.reading.specs.Answer.{found}
use Rattle.base.proofs.FileLookups.{lookup_ok}
use Rattle.task_table.specs.Lookups.{task_entries}
use Rattle.task_table.proofs.Tables.{counts-refused, start}
use Rattle.task_table.proofs.tasks.Goals as goal

pub returns-in_err-read_from : goal.returns-in_err-read_from
returns-in_err-read_from c =
    let e = err_from_is_err_and c.from_residual-in_err-read_from.result c.from_residual-in_err-read_from.ensures.1 in
    rw (e.1, e.2) (lookup_ok _ _ _ _ _ _ c.in_ok-section_cut.ensures (counts-refused _ _ _ c.in_err-read_from.ensures))

pub returns : goal.returns
returns c = lookup_ok _ _ _ _ _ _ c.in_ok-section_cut.ensures (ap found c.task_entries.ensures ∙ start _ _ c.in_ok-read_from.ensures task_entries)
