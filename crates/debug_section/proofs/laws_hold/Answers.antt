-- `debug_section::laws_hold` meets its contract.
use Rattle.debug_section.proofs.Laws.{laws}
use Rattle.debug_section.proofs.laws_hold.Goals as goal

pub returns : goal.returns
returns c = laws
