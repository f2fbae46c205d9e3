-- `debug_tables::laws_hold` meets its contract.
use Rattle.debug_tables.proofs.Few.{laws}
use Rattle.debug_tables.proofs.laws_hold.Goals as goal

pub returns : goal.returns
returns c = laws
