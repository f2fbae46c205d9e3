-- `debug_section::string_layout` meets its contract: the section's tables, and the entry of an index.
use Rattle.debug_section.proofs.Lookups.{string_ok}
use Rattle.debug_section.proofs.string_layout.Goals as goal

pub returns : goal.returns
returns c = rw c.answered.ensures (string_ok _ _ _ _ c.in_ok-cut.ensures _ _ _ c.find.ensures)
