-- The claims of `specs/Laws.antt`.
use Rattle.entry_lines.proofs.Laws.{laws}
use Rattle.entry_lines.proofs.laws_hold.Goals as goal

pub returns : goal.returns
returns c = laws
