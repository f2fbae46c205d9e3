-- `debug_tables::bad_place` meets its contract: what `tables_of` answers, by the place of its fault.
use Rattle.debug_text.specs.declared.DebugFault.TheVariants.{Short, BadText}
use Rattle.debug_tables.proofs.BadPlaces.{placed, not-bad}
use Rattle.debug_tables.proofs.bad_place.Goals as goal

pub returns-in-Err-BadText : goal.returns-in-Err-BadText
returns-in-Err-BadText c = placed _ (BadText c.in-Err-BadText.p) (rw c.in-Err-BadText.field-0-is at c.in-Err-BadText.ensures)

pub returns-in-Err-Short : goal.returns-in-Err-Short
returns-in-Err-Short c = placed _ Short (rw c.in-Err-Short.field-0-is at c.in-Err-Short.ensures)

pub returns-in-Ok : goal.returns-in-Ok
returns-in-Ok c = not-bad _ _ c.in-Ok.ensures
