-- What the code's answers mean.
use Rattle.std.specs.Prelude.{ℕ, ◌-◌, List, length, Result}
use Rattle.std.proofs.Math.Option.{Option, none, some}
use Rattle.reading.specs.Fault.{Fault, short_input, bad_text}
use Rattle.reading.specs.Places.{Step}
use Rattle.format.specs.Parts.{Place, Keep, by_place}
use Rattle.base.specs.Answers.{step_by}
use Rattle.base.specs.Section.{part_in}
use Rattle.base.specs.declared.section.Part.{Part}
use Rattle.debug_text.specs.declared.DebugFault.{DebugFault}
use Rattle.debug_text.specs.declared.DebugFault.TheVariants as debug_fault
use Rattle.debug_text.specs.declared.Name.{Name}

-- names and paths of the section `s` at `base` of the file are kept by their place in the file
abbrev pub keep_in : ℕ → List ℕ → Keep Place
keep_in base s = by_place (record { offset = base; size = length s })

-- Why the section `s` does not read. The code tells a bad text by its place in the section, the definitions by how many bytes are left from there
-- on. Lookups in such a section answer 15
abbrev pub debug_fault_of : List ℕ → DebugFault → Fault
debug_fault_of s debug_fault.Short = short_input
debug_fault_of s (debug_fault.BadText p) = bad_text (length s - p)

-- the place that it tells
abbrev pub fault_place : DebugFault → Option ℕ
fault_place debug_fault.Short = none
fault_place (debug_fault.BadText p) = some p

-- Names and paths

abbrev pub name_in : Name → Place
name_in n = part_in n.0

-- what is read at a place: a text, and where it ends
abbrev pub text_step : List ℕ → Result (Part × ℕ) DebugFault → Step Place
text_step s = step_by (debug_fault_of s) part_in
