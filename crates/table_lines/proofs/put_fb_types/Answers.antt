-- `table_lines::put_fb_types` meets its contract: the text from where the walk starts is the table's.
use Rattle.record.specs.Answers.{container_in}
use Rattle.table_lines.proofs.Starts.{fb-types-start}
use Rattle.table_lines.proofs.put_fb_types.Goals as goal

pub returns : goal.returns
returns c =
    let a = c.args in
    rw (← fb-types-start a.file.now (container_in a.c), ← c.fb_types.ensures) c.put_from.ensures
