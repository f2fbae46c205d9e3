-- `debug_section::enumeration_value` meets its contract: the section's tables, the enumeration, and the name of its value.
use Rattle.debug_section.proofs.Lookups.{value_ok}
use Rattle.debug_section.proofs.enumeration_value.Goals as goal

pub returns : goal.returns
returns c = rw c.answered.ensures (value_ok _ _ _ _ c.in_ok-cut.ensures _ _ _ c.find_enumeration_value.ensures)
