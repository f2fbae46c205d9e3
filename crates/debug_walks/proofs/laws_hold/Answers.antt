-- `debug_walks::laws_hold` meets its contract.
use Rattle.debug_walks.proofs.Walks.{laws}
use Rattle.debug_walks.proofs.laws_hold.Goals as goal

pub returns : goal.returns
returns c = laws
