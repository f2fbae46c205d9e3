-- `type_section::laws_hold`: the claims hold.
use Rattle.type_section.proofs.Walking.{laws}
use Rattle.type_section.proofs.laws_hold.Goals as goal

pub returns : goal.returns
returns c = laws
