-- `task_table::laws_hold` meets its contract: the claims are laws of `proofs/`.
use Rattle.task_table.proofs.Tables.{laws}
use Rattle.task_table.proofs.laws_hold.Goals as goal

pub returns : goal.returns
returns c = laws
