-- The claims of `specs/Laws.antt`.
use Rattle.lent.proofs.Laws.{laws}
use Rattle.lent.proofs.laws_hold.Goals as goal

pub returns : goal.returns
returns c = laws
