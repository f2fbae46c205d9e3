-- `constant_pool::laws_hold` meets its contract: the laws of `proofs/Walks.antt`.
use Rattle.constant_pool.proofs.Walks.{laws}
use Rattle.constant_pool.proofs.laws_hold.Goals as goal

pub returns : goal.returns
returns c = laws
