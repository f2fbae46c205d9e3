-- `debug_section::bad_place` meets its contract: that of the section's bytes.
use Rattle.debug_section.proofs.Parts.{place_ok}
use Rattle.debug_section.proofs.bad_place.Goals as goal

pub returns-in-Ok : goal.returns-in-Ok
returns-in-Ok c = place_ok _ _ _ _ c.in-Ok.ensures c.bad_place.ensures
