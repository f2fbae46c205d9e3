-- `record_numbers::laws_hold` meets its contract.
use Rattle.record_numbers.proofs.Laws.{laws}
use Rattle.record_numbers.proofs.laws_hold.Goals as goal

pub returns : goal.returns
returns c = laws
