-- `container::constants_at` meets its contract: the section's place decides, and then its reader.
use Rattle.base.proofs.FileLookups.{lookup_ok}
use Rattle.container.proofs.constants_at.Goals as goal

pub returns : goal.returns
returns c = lookup_ok _ _ _ _ _ _ c.in_ok-section_cut.ensures c.read_from.ensures
