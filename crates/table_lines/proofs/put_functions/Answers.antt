-- `table_lines::put_functions` meets its contract: the text from where the walk starts is the table's.
use Rattle.record.specs.Answers.{container_in}
use Rattle.table_lines.proofs.Starts.{functions-start}
use Rattle.table_lines.proofs.put_functions.Goals as goal

pub returns : goal.returns
returns c =
    let a = c.args in
    rw (← functions-start a.file.now (container_in a.c), ← c.functions.ensures) c.put_from.ensures
