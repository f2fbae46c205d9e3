-- `type_section::user_fb` meets its contract: the section's place decides, and then the section's bytes.
use Rattle.base.proofs.FileLookups.{lookup_ok}
use Rattle.type_section.proofs.user_fb.Goals as goal

pub returns : goal.returns
returns c = lookup_ok _ _ _ _ _ _ c.in_ok-section_cut.ensures c.find_user_fb.ensures
