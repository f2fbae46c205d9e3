-- `debug_section::source_file` meets its contract: the section's tables, and the entry of an index.
use Rattle.debug_section.proofs.Lookups.{file_ok}
use Rattle.debug_section.proofs.source_file.Goals as goal

pub returns : goal.returns
returns c = rw c.answered.ensures (file_ok _ _ _ _ c.in_ok-cut.ensures _ _ _ c.find.ensures)
