-- `record_walks::laws_hold` meets its contract.
use Rattle.record_walks.proofs.Walks.{laws}
use Rattle.record_walks.proofs.laws_hold.Goals as goal

pub returns : goal.returns
returns c = laws
