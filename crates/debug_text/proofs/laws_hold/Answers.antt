-- `debug_text::laws_hold` meets its contract.
use Rattle.debug_text.proofs.Places.{laws}
use Rattle.debug_text.proofs.laws_hold.Goals as goal

pub returns : goal.returns
returns c = laws
