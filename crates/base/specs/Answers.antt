-- What an answer of the code is for a definition: `told` gives a refusal of the code as document 01's, and `view` says what the answer's value is.
use Rattle.std.specs.Prelude.{ℕ, Option, Some, None, Result, Ok, Err}
use Rattle.reading.specs.Fault.{Fault, short_input}
use Rattle.reading.specs.Answer.{Got, refused, found}
use Rattle.reading.specs.Places.{Step, stops, item, Way, stops_by, on_to, Next, ends, faulty, entry}
use Rattle.reading.specs.declared.Table.{Table}
use Rattle.base.specs.Error.{fault_of}
use Rattle.base.specs.declared.error.ContainerError.{ContainerError}

-- the view of a value that is the answer itself
abbrev pub as_it_is : {A : Type 0} → A → A
as_it_is x = x

module _ {E : Type 0} (told : E → Fault) where
  module _ {T A : Type 0} (view : T → A) where
    -- a refusal, or what was asked for
    abbrev pub got_by : Result T E → Got A
    got_by (Err e) = refused (told e)
    got_by (Ok x) = found (view x)

    -- what a lookup finds: `out` where there is none
    abbrev pub found_by : Fault → Result (Option T) E → Got A
    found_by out (Err e) = refused (told e)
    found_by out (Ok None) = refused out
    found_by out (Ok (Some x)) = found (view x)

    -- an entry read at a place, and where it ends
    abbrev pub step_by : Result (T × ℕ) E → Step A
    step_by (Err e) = stops (told e)
    step_by (Ok x) = item (view x.0) x.1

    -- one step of a walk over a table
    abbrev pub next_by : Result (Option (T × Table)) E → Next A
    next_by (Err e) = faulty (told e)
    next_by (Ok None) = ends
    next_by (Ok (Some x)) = entry (view x.0) x.1

  -- where reading goes on after what was passed over
  abbrev pub way_by : Result ℕ E → Way
  way_by (Err e) = stops_by (told e)
  way_by (Ok m) = on_to m

-- where reading goes on after what was passed over; none where its bytes are not there
abbrev pub way_if_there : Option ℕ → Way
way_if_there None = stops_by short_input
way_if_there (Some m) = on_to m

-- The same where the code refuses with a row of document 01's table

module _ {T A : Type 0} (view : T → A) where
  abbrev pub got_from : Result T ContainerError → Got A
  got_from = got_by fault_of view

  abbrev pub step_from : Result (T × ℕ) ContainerError → Step A
  step_from = step_by fault_of view

  abbrev pub next_from : Result (Option (T × Table)) ContainerError → Next A
  next_from = next_by fault_of view

abbrev pub way_from : Result ℕ ContainerError → Way
way_from = way_by fault_of
