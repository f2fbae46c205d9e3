-- The order of refusals in lookups, for any record (document 01: "both before 11 to 17 and 29"). Each lookup reads its section first, so what holds of reading the section
-- holds of every lookup in it.
use Rattle.std.specs.Prelude.{ℕ, ◌<◌, ◌≤◌, ◌≡◌, List, length}
use Rattle.std.proofs.Math.Option.{none, some}
use Rattle.reading.specs.Answer.{refused, item_of}
use Rattle.format.specs.Faults.{too_long, section_size_mismatch, no_array, no_debug}
use Rattle.format.specs.Parts.{limit, cut, Inside, by_place}
use Rattle.format.specs.Tasks.{task_table}
use Rattle.format.specs.Types.{type_tables}
use Rattle.format.specs.Constants.{constants}
use Rattle.format.specs.Code.{code_of}
use Rattle.format.specs.Debug.{debug_tables}
use Rattle.format.specs.Record.{TypeCounts, DebugCounts, Container}
use Rattle.format.specs.Lookups.{tasks_in, types_in, constants_in, code_in, or_no_debug, debug_in}

-- 10 comes first, also where types or debug are absent
pub record LimitFirst (f : List ℕ) (r : Container) : Type 0 where
  pub tasks : tasks_in f r ≡ refused too_long
  pub types : types_in f r ≡ refused too_long
  pub constants : constants_in by_place f r ≡ refused too_long
  pub code : code_in f r ≡ refused too_long
  pub debug : debug_in by_place f r ≡ refused too_long

-- then absence
pub record AbsenceThen (f : List ℕ) (r : Container) : Type 0 where
  pub types : r.types ≡ none → types_in f r ≡ refused no_array
  pub debug : r.debug ≡ none → debug_in by_place f r ≡ refused no_debug

-- then the place, for debug by 15. A file under 256 bytes has no place inside it
pub record PlaceThen (f : List ℕ) (r : Container) : Type 0 where
  pub tasks : (Inside f r.header.directory.tasks → ⊥) → tasks_in f r ≡ refused section_size_mismatch
  pub types : (c : TypeCounts) → r.types ≡ some c → (Inside f r.header.directory.types → ⊥) → types_in f r ≡ refused section_size_mismatch
  pub constants : (Inside f r.header.directory.constants → ⊥) → constants_in by_place f r ≡ refused section_size_mismatch
  pub code : (Inside f r.header.directory.code → ⊥) → code_in f r ≡ refused section_size_mismatch
  pub debug : (c : DebugCounts) → r.debug ≡ some c → (Inside f r.header.directory.debug → ⊥) → debug_in by_place f r ≡ refused no_debug

-- then what reading the section gives: its own refusal or its tables; for debug 15 in place of any refusal
pub record SectionThen (f : List ℕ) (r : Container) : Type 0 where
  pub tasks : (let p = r.header.directory.tasks in Inside f p → tasks_in f r ≡ item_of (task_table (cut f p)))
  pub types : (let p = r.header.directory.types in (c : TypeCounts) → r.types ≡ some c → Inside f p → types_in f r ≡ item_of (type_tables (cut f p)))
  pub constants : (let p = r.header.directory.constants in Inside f p → constants_in by_place f r ≡ item_of (constants (by_place p) (cut f p)))
  pub code : (let p = r.header.directory.code in Inside f p → code_in f r ≡ item_of (code_of r.header.runtime.functions (cut f p)))
  pub debug : (let p = r.header.directory.debug in (c : DebugCounts) → r.debug ≡ some c → Inside f p
      → debug_in by_place f r ≡ or_no_debug (item_of (debug_tables (by_place p) (cut f p))))

pub record Order : Type 0 where
  pub limit-first : (f : List ℕ) (r : Container) → limit < length f → LimitFirst f r
  pub absence-then : (f : List ℕ) (r : Container) → length f ≤ limit → AbsenceThen f r
  pub place-then : (f : List ℕ) (r : Container) → length f ≤ limit → PlaceThen f r
  pub section-then : (f : List ℕ) (r : Container) → length f ≤ limit → SectionThen f r
