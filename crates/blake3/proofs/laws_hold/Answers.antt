-- `blake3::laws_hold` meets its contract, which is that the claims hold. Assumes nothing.
use Rattle.blake3.proofs.Laws.{laws}
use Rattle.blake3.proofs.laws_hold.Goals as goal

pub returns : goal.returns
returns c = laws
