-- `table_lines::put_user_fbs` meets its contract: the text from where the walk starts is the table's.
use Rattle.record.specs.Answers.{container_in}
use Rattle.table_lines.proofs.Starts.{user-fbs-start}
use Rattle.table_lines.proofs.put_user_fbs.Goals as goal

pub returns : goal.returns
returns c =
    let a = c.args in
    rw (← user-fbs-start a.file.now (container_in a.c), ← c.user_fbs.ensures) c.put_from.ensures
