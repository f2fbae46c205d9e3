use Rattle.base.proofs.FileLookups.{lookup_ok}
use Rattle.task_table.proofs.program.Goals as goal

pub returns : goal.returns
returns c = lookup_ok _ _ _ _ _ _ c.in_ok-section_cut.ensures c.find_program.ensures
