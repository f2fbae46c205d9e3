-- The claims of `specs/Laws.antt`.
use Rattle.text.proofs.Laws.{laws}
use Rattle.text.proofs.laws_hold.Goals as goal

pub returns : goal.returns
returns c = laws
