-- `utf8::laws_hold` meets its contract, which is that the claims hold. Assumes nothing.
use Rattle.utf8.proofs.Longest.{laws}
use Rattle.utf8.proofs.laws_hold.Goals as goal

pub returns : goal.returns
returns c = laws
