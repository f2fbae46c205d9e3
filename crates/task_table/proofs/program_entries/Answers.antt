-- `task_table::program_entries` meets its contract: the code computes what the definition says.
use mathlib.Core.Path.{refl}
use Rattle.task_table.proofs.program_entries.Goals as goal

pub returns : goal.returns
returns c = refl
