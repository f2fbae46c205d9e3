-- `capi::laws_hold` meets its contract.
use Rattle.capi.proofs.Laws.{laws}
use Rattle.capi.proofs.laws_hold.Goals as goal

pub returns : goal.returns
returns c = laws
