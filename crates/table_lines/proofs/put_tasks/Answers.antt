-- `table_lines::put_tasks` meets its contract: the text from where the walk starts is the table's.
use Rattle.record.specs.Answers.{container_in}
use Rattle.table_lines.proofs.Starts.{tasks-start}
use Rattle.table_lines.proofs.put_tasks.Goals as goal

pub returns : goal.returns
returns c =
    let a = c.args in
    rw (← tasks-start a.file.now (container_in a.c), ← c.tasks.ensures) c.put_from.ensures
