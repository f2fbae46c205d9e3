-- `table_lines::put_programs` meets its contract: the text from where the walk starts is the table's.
use Rattle.record.specs.Answers.{container_in}
use Rattle.table_lines.proofs.Starts.{programs-start}
use Rattle.table_lines.proofs.put_programs.Goals as goal

pub returns : goal.returns
returns c =
    let a = c.args in
    rw (← programs-start a.file.now (container_in a.c), ← c.programs.ensures) c.put_from.ensures
