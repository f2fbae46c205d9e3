-- One step of a walk over a table of the debug section, over any file, any place `p` of the section and any table.
use Rattle.std.specs.Prelude.{ℕ, List}
use Rattle.reading.specs.Reader.{Reader}
use Rattle.reading.specs.Answer.{Got, refused, found}
use Rattle.reading.specs.Places.{Next, ends, faulty, entry, step_of}
use Rattle.reading.specs.declared.Table.{Table}
use Rattle.format.specs.Faults.{no_debug}
use Rattle.format.specs.Parts.{Place, cut}
use Rattle.debug_section.specs.Lookups.{debug_part}

-- an entry that does not read gives 15
abbrev pub no_debug_step : {A : Type 0} → Next A → Next A
no_debug_step ends = ends
no_debug_step (faulty e) = faulty no_debug
no_debug_step (entry a t) = entry a t

abbrev pub debug_step_by : {A : Type 0} → List ℕ → Got Place → Reader A → Table → Next A
debug_step_by f (refused e) r t = faulty e
debug_step_by f (found p) r t = no_debug_step (step_of r (cut f p) t)

abbrev pub debug_step_at : {A : Type 0} → List ℕ → Place → Reader A → Table → Next A
debug_step_at f p r t = debug_step_by f (debug_part f p) r t
