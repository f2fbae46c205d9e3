-- `debug_entries::laws_hold` meets its contract, which is that the claims hold. Assumes nothing.
use Rattle.debug_entries.proofs.Giving.{laws}
use Rattle.debug_entries.proofs.laws_hold.Goals as goal

pub returns : goal.returns
returns c = laws
