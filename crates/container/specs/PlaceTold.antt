-- Document 02, slip 1, of the state of a file's debug section: an answer that meets the contract of `debug_state` and says why the section does not
-- read tells the section's bad place.
use Rattle.std.specs.Prelude.{ℕ, ◌≡◌, List}
use Rattle.format.specs.Parts.{cut}
use Rattle.format.specs.Header.{Header}
use Rattle.requests.specs.BadPlace.{bad_place_at}
use Rattle.debug_text.specs.Answers.{fault_place}
use Rattle.debug_text.specs.declared.DebugFault.{DebugFault}
use Rattle.container.specs.Answers.{debug_state_in}
use Rattle.container.specs.Sections.{debug_state_of}
use Rattle.container.specs.declared.DebugState.TheVariants as state

pub record PlaceTold (f : List ℕ) (h : Header) : Type 0 where
  pub told : (e : DebugFault) → debug_state_in (cut f h.directory.debug) (state.Unreadable e) ≡ debug_state_of f h → fault_place e ≡ bad_place_at f h.directory.debug
