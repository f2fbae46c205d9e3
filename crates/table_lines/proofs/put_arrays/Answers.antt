-- `table_lines::put_arrays` meets its contract: the text from where the walk starts is the table's.
use Rattle.record.specs.Answers.{container_in}
use Rattle.table_lines.proofs.Starts.{arrays-start}
use Rattle.table_lines.proofs.put_arrays.Goals as goal

pub returns : goal.returns
returns c =
    let a = c.args in
    rw (← arrays-start a.file.now (container_in a.c), ← c.arrays.ensures) c.put_from.ensures
