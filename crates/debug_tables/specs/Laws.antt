-- The places of the tables in force are answered exactly if the section reads, and each table stands at its place, whatever is kept of names and paths.
use Rattle.std.specs.Prelude.{ℕ, ◌<◌, ◌≡◌, List, get_or}
use Rattle.reading.specs.Fault.{Fault}
use Rattle.reading.specs.Answer.{refused, found, item_of}
use Rattle.reading.specs.Places.{Holds}
use Rattle.format.specs.Parts.{Keep}
use Rattle.format.specs.Debug.{line, variable, function_name, string_layout, source_file, enumeration, Tables, debug_tables}
use Rattle.requests.specs.BadPlace.{bad_place}
use Rattle.debug_text.specs.Answers.{keep_in, debug_fault_of, fault_place}
use Rattle.debug_text.specs.declared.DebugFault.{DebugFault}
use Rattle.debug_tables.specs.SixTags.{DebugTables}
use Rattle.debug_tables.specs.Starts.{debug_starts}

-- each table stands in the section `s` where `u` says
pub record Standing {T : Type 0} (keep : Keep T) (s : List ℕ) (u : DebugTables) (t : Tables T) : Type 0 where
  pub lines : Holds line s u.lines t.lines
  pub variables : Holds (variable keep) s u.variables t.variables
  pub functions : Holds (function_name keep) s u.functions t.functions
  pub strings : Holds string_layout s u.strings t.strings
  pub files : Holds (source_file keep) s u.files t.files
  pub enumerations : Holds (enumeration keep) s u.enumerations t.enumerations

-- a section that reads, with its tables
pub record DebugReadable {T : Type 0} (keep : Keep T) (s : List ℕ) (u : DebugTables) : Type 0 where
  pub tables : Tables T
  pub reads : item_of (debug_tables keep s) ≡ found tables
  pub stand : Standing keep s u tables

-- each count has two bytes
pub record TwoByteCounts (u : DebugTables) : Type 0 where
  pub lines : u.lines.count < 65536
  pub variables : u.variables.count < 65536
  pub functions : u.functions.count < 65536
  pub strings : u.strings.count < 65536
  pub files : u.files.count < 65536
  pub enumerations : u.enumerations.count < 65536

pub record Laws : Type 0 where
  -- document 02, slip 1: a fault that meets the reader's contract tells the section's bad place
  pub placed : (s : List ℕ) (e : DebugFault) → refused (debug_fault_of s e) ≡ item_of (debug_starts s) → fault_place e ≡ bad_place s
  pub unreadable : (base : ℕ) (s : List ℕ) (f : Fault) → item_of (debug_starts s) ≡ refused f → item_of (debug_tables (keep_in base s) s) ≡ refused f
  pub readable : (base : ℕ) (s : List ℕ) (u : DebugTables) → item_of (debug_starts s) ≡ found u → DebugReadable (keep_in base s) s u
  pub few : (s : List ℕ) (u : DebugTables) → ((i : ℕ) → get_or s i 0 < 256) → item_of (debug_starts s) ≡ found u → TwoByteCounts u
