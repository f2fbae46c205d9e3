-- `line_map::laws_hold` meets its contract: the laws of `proofs/Laws.antt`.
use Rattle.line_map.proofs.Laws.{laws}
use Rattle.line_map.proofs.laws_hold.Goals as goal

pub returns : goal.returns
returns c = laws
