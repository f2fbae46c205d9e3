-- `debug_section::lookup_source_location` meets its contract: the section's tables, and the lookup in its lines.
use Rattle.debug_section.proofs.Lookups.{lines_ok}
use Rattle.debug_section.proofs.lookup_source_location.Goals as goal

pub returns : goal.returns
returns c = lines_ok _ _ _ _ c.in_ok-cut.ensures _ _ c.lookup_source_location.ensures
