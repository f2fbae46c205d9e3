-- The claims of `specs/Laws.antt`.
use Rattle.integrity.proofs.Laws.{laws}
use Rattle.integrity.proofs.laws_hold.Goals as goal

pub returns : goal.returns
returns c = laws
