-- The claims of `specs/Laws.antt`.
use Rattle.code_section.proofs.Entries.{laws}
use Rattle.code_section.proofs.laws_hold.Goals as goal

pub returns : goal.returns
returns c = laws
