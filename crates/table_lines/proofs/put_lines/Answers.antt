-- `table_lines::put_lines` meets its contract: the text from where the walk starts is the table's.
use Rattle.record.specs.Answers.{container_in}
use Rattle.table_lines.proofs.Starts.{lines_start}
use Rattle.table_lines.proofs.put_lines.Goals as goal

pub returns : goal.returns
returns c =
    let a = c.args in
    rw (← lines_start a.file.now (container_in a.c), ← c.lines.ensures) c.put_from.ensures
