-- `hasher::laws_hold` meets its contract, which is that the claims hold. Assumes nothing.
use Rattle.hasher.proofs.Laws.{laws}
use Rattle.hasher.proofs.laws_hold.Goals as goal

pub returns : goal.returns
returns c = laws
