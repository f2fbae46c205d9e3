-- Walks over the tables in force of a section that reads: the steps of each, driven from where the table starts, give the table.
use Rattle.std.specs.Prelude.{ℕ, List, map, ◌≡◌}
use Rattle.reading.specs.Answer.{found, indexed}
use Rattle.reading.specs.Places.{Gives}
use Rattle.format.specs.Faults.{no_entry}
use Rattle.format.specs.Parts.{Place, by_place}
use Rattle.format.specs.Debug.{line, name, variable, function_name, string_layout, source_file, Enumeration, Tables}
use Rattle.debug_tables.specs.SixTags.{DebugTables}
use Rattle.debug_section.specs.Lookups.{debug_tables_at, starts_at}
use Rattle.debug_entries.specs.Answers.{entry_of, enumeration_entry}
use Rattle.debug_walks.specs.Steps.{debug_step_at}

pub record Walks (f : List ℕ) (p : Place) (t : Tables Place) : Type 0 where
  pub starts : DebugTables
  pub started : starts_at f p ≡ found starts
  pub lines : Gives (debug_step_at f p line) starts.lines t.lines
  pub variables : Gives (debug_step_at f p (variable (by_place p))) starts.variables t.variables
  pub functions : Gives (debug_step_at f p (function_name (by_place p))) starts.functions t.functions
  pub strings : Gives (debug_step_at f p string_layout) starts.strings t.strings
  pub files : Gives (debug_step_at f p (source_file (by_place p))) starts.files t.files
  pub enumerations : Gives (debug_step_at f p (enumeration_entry p.offset (by_place p))) starts.enumerations (map (entry_of p.offset) t.enumerations)
  pub values : (i : ℕ) (e : Enumeration Place) → indexed no_entry t.enumerations i ≡ found e → Gives (debug_step_at f p (name (by_place p))) (entry_of p.offset e).values e.values

pub record Laws : Type 0 where
  pub walks : (f : List ℕ) (p : Place) (t : Tables Place) → debug_tables_at f p ≡ found t → Walks f p t
