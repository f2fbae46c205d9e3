-- Loading a file (document 01, "Reading, in this order"). `hash` stands for BLAKE3.
use Rattle.std.specs.Prelude.{ℕ, Bool, not, ◌&&◌, cond, List, leb, ltb, length}
use Rattle.std.proofs.Math.Option.{Option, none, some}
use Rattle.reading.specs.Fault.{Fault}
use Rattle.reading.specs.Reader.{Read, fault, got, Reader}
use Rattle.reading.specs.Answer.{Got, found, ◌>>=◌, ◌>>◌, need, item_of}
use Rattle.format.specs.Faults.{too_long}
use Rattle.format.specs.Parts.{limit, Place, cut, is_inside, by_bytes}
use Rattle.format.specs.Header.{Header, header_of, types_flag}
use Rattle.format.specs.Integrity.{section_in, content_fits, debug_hash_fits}
use Rattle.format.specs.Tasks.{TaskTable, task_table}
use Rattle.format.specs.Types.{TypeTables, type_tables}
use Rattle.format.specs.Constants.{Constant, constants}
use Rattle.format.specs.Code.{Code, code_of}
use Rattle.format.specs.Debug.{Tables, debug_tables}
use Rattle.format.specs.InForce.{InForce, in_force_with}

-- what a loaded file holds; strings, names and paths by their bytes. The rows of the debug tables in force stand beside these tables
pub record Loaded : Type 0 where
  pub header : Header
  pub tasks : TaskTable
  pub types : Option TypeTables
  pub constants : List (Constant (List ℕ))
  pub code : Code
  pub debug : Option (Tables (List ℕ))
  pub in_force : InForce

-- document 01: "each section is handed on as the part of the file that starts at its offset and has its size": 4 before it is read, then its own refusal
unfoldable pub read_in : {A : Type 0} → List ℕ → Place → Reader A → Got A
read_in f p r = do
  s ← section_in f p
  item_of (r s)

-- Types are read only if their flag is set, their size is above 0 and they lie in the file; otherwise there are none, and no refusal

unfoldable pub has_types : List ℕ → Header → Bool
has_types f h = types_flag h.flags && ltb 0 h.directory.types.size && is_inside f h.directory.types

unfoldable pub types_found : List ℕ → Header → Got (Option TypeTables)
types_found f h =
    let read : Got (Option TypeTables) = (item_of (type_tables (cut f h.directory.types)) >>= λ t. found (some t)) in
    cond (has_types f h) read (found none)

-- Debug (document 01, step 5: "Debug is read if its size is above 0; the flag is not asked. Out of the file, before byte 256, hash unequal (zero
-- matches anything) or unreadable: the container loads with no debug"): four tests

abbrev pub debug_sized : Header → Bool
debug_sized h = ltb 0 h.directory.debug.size

abbrev pub debug_inside : List ℕ → Header → Bool
debug_inside f h = is_inside f h.directory.debug

abbrev pub debug_hash_right : (List ℕ → List ℕ) → List ℕ → Header → Bool
debug_hash_right hash f h = debug_hash_fits hash h.debug_hash (cut f h.directory.debug)

-- what was read, or none where the section is unreadable
abbrev pub readable : {A : Type 0} → Read A → Option A
readable (fault f) = none
readable (got a rest) = some a

unfoldable pub debug_of : List ℕ → Option (Tables (List ℕ))
debug_of section = readable (debug_tables by_bytes section)

unfoldable pub debug_found : (List ℕ → List ℕ) → List ℕ → Header → Option (Tables (List ℕ))
debug_found hash f h =
    let read = debug_of (cut f h.directory.debug) in
    cond (debug_sized h && debug_inside f h && debug_hash_right hash f h) read none

-- the rows of the tables in force: those of the section if it is loaded, and else none
abbrev pub in_force_found : (List ℕ → List ℕ) → List ℕ → Header → InForce
in_force_found hash f h = in_force_with (cut f h.directory.debug) (debug_found hash f h)

-- The same tests in the paper's order: the first that fails decides in which state the debug section is

pub data DebugState (A : Type 0) : Type 0 where
  empty outside hash_differs : DebugState A
  unreadable : Fault → DebugState A
  read : A → DebugState A

-- the state of a section whose size, place and hash are right
abbrev pub state_of_read : {A : Type 0} → Read A → DebugState A
state_of_read (fault e) = unreadable e
state_of_read (got a rest) = read a

unfoldable pub debug_state : (List ℕ → List ℕ) → List ℕ → Header → DebugState (Tables (List ℕ))
debug_state hash f h =
    let section = state_of_read (debug_tables by_bytes (cut f h.directory.debug)) in
    cond (not (debug_sized h)) empty
    (cond (not (debug_inside f h)) outside
    (cond (not (debug_hash_right hash f h)) hash_differs section))

-- what loading keeps of a state: only tables that were read
abbrev pub debug_kept : {A : Type 0} → DebugState A → Option A
debug_kept empty = none
debug_kept outside = none
debug_kept hash_differs = none
debug_kept (unreadable e) = none
debug_kept (read a) = some a

-- The file: length, header, content hash, tasks, types, constants, code, debug; the first fault met decides

unfoldable pub load : (List ℕ → List ℕ) → List ℕ → Got Loaded
load hash f = do
  need (leb (length f) limit) too_long
  h ← header_of f
  content_fits hash f h
  tasks ← read_in f h.directory.tasks task_table
  types ← types_found f h
  constants ← read_in f h.directory.constants (constants by_bytes)
  code ← read_in f h.directory.code (code_of h.runtime.functions)
  found
      (record {
        header = h;
        tasks = tasks;
        types = types;
        constants = constants;
        code = code;
        debug = debug_found hash f h;
        in_force = in_force_found hash f h;
      })
