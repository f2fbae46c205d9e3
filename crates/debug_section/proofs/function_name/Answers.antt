-- `debug_section::function_name` meets its contract: the section's tables, and the entry of an index.
use Rattle.debug_section.proofs.Lookups.{function_ok}
use Rattle.debug_section.proofs.function_name.Goals as goal

pub returns : goal.returns
returns c = rw c.answered.ensures (function_ok _ _ _ _ c.in_ok-cut.ensures _ _ _ c.find.ensures)
