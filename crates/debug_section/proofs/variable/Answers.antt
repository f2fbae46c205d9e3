-- `debug_section::variable` meets its contract: the section's tables, and the entry of an index.
use Rattle.debug_section.proofs.Lookups.{variable_ok}
use Rattle.debug_section.proofs.variable.Goals as goal

pub returns : goal.returns
returns c = rw c.answered.ensures (variable_ok _ _ _ _ c.in_ok-cut.ensures _ _ _ c.find.ensures)
