-- `lookup_kinds::laws_hold` meets its contract.
use Rattle.lookup_kinds.proofs.Laws.{laws}
use Rattle.lookup_kinds.proofs.laws_hold.Goals as goal

pub returns : goal.returns
returns c = laws
