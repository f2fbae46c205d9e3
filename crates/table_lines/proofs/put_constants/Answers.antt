-- `table_lines::put_constants` meets its contract: the text from where the walk starts is the table's.
use Rattle.record.specs.Answers.{container_in}
use Rattle.table_lines.proofs.Starts.{constants-start}
use Rattle.table_lines.proofs.put_constants.Goals as goal

pub returns : goal.returns
returns c =
    let a = c.args in
    rw (← constants-start a.file.now (container_in a.c), ← c.constants.ensures) c.put_from.ensures
