-- The claim of `specs/Laws.antt`.
use Rattle.table_lines.proofs.Whole.{laws}
use Rattle.table_lines.proofs.laws_hold.Goals as goal

pub returns : goal.returns
returns c = laws
