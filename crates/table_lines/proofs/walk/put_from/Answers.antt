-- `table_lines::walk::put_from` meets its contract: no text, or that of the entries.
use Rattle.lent.proofs.Fitting.{puts-free}
use Rattle.table_lines.proofs.walk.put_from.Goals as goal

pub returns-in-Err : goal.returns-in-Err
returns-in-Err g c = rw c.in-Err.is (puts-free c.put_text.ensures)
