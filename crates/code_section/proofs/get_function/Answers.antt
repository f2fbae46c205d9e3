-- `code_section::get_function` meets its contract: the section's bytes decide.
use Rattle.base.proofs.FileLookups.{lookup_ok}
use Rattle.code_section.proofs.get_function.Goals as goal

pub returns : goal.returns
returns c = lookup_ok _ _ _ _ _ _ c.in_ok-section_cut.ensures c.find.ensures
