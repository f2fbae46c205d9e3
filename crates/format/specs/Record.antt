-- The record that reading yields (document 01, "Shape"): the header, which has every section's place and size and the function count,
-- and the other counts; and the rows of the debug tables in force (document 02, slip 2). A record is not trusted: anyone can construct one.
use Rattle.std.specs.Prelude.{ℕ, List, leb, length}
use Rattle.std.proofs.Math.Option.{Option, none, some}
use Rattle.reading.specs.Answer.{Got, found, ◌>>=◌, ◌>>◌, need}
use Rattle.format.specs.Faults.{too_long}
use Rattle.format.specs.Parts.{program_limit}
use Rattle.format.specs.Header.{Header}
use Rattle.format.specs.Tasks.{TaskTable}
use Rattle.format.specs.Types.{TypeTables}
use Rattle.format.specs.Debug.{Tables}
use Rattle.format.specs.InForce.{InForce}
use Rattle.format.specs.Load.{Loaded, load, DebugState, empty, outside, hash_differs, unreadable, read}

pub record TaskCounts : Type 0 where
  pub shared_globals : ℕ
  pub tasks : ℕ
  pub programs : ℕ

pub record TypeCounts : Type 0 where
  pub fb_types : ℕ
  pub arrays : ℕ
  pub user_fbs : ℕ

pub record DebugCounts : Type 0 where
  pub lines : ℕ
  pub variables : ℕ
  pub functions : ℕ
  pub strings : ℕ
  pub files : ℕ
  pub enumerations : ℕ

pub record Container : Type 0 where
  pub header : Header
  pub tasks : TaskCounts
  pub types : Option TypeCounts
  pub constants : ℕ
  pub debug : Option DebugCounts
  pub in_force : InForce

-- The counts of tables

abbrev pub task_counts : TaskTable → TaskCounts
task_counts t = record { shared_globals = t.shared_globals; tasks = length t.tasks; programs = length t.programs }

abbrev pub type_counts : Option TypeTables → Option TypeCounts
type_counts none = none
type_counts (some t) = some (record { fb_types = length t.fb_types; arrays = length t.arrays; user_fbs = length t.user_fbs })

abbrev pub table_counts : {T : Type 0} → Tables T → DebugCounts
table_counts t =
    record {
      lines = length t.lines;
      variables = length t.variables;
      functions = length t.functions;
      strings = length t.strings;
      files = length t.files;
      enumerations = length t.enumerations;
    }

abbrev pub debug_counts : {T : Type 0} → Option (Tables T) → Option DebugCounts
debug_counts none = none
debug_counts (some t) = some (table_counts t)

-- a debug section's state, by the counts of tables that were read
abbrev pub state_counts : {T : Type 0} → DebugState (Tables T) → DebugState DebugCounts
state_counts empty = empty
state_counts outside = outside
state_counts hash_differs = hash_differs
state_counts (unreadable e) = unreadable e
state_counts (read t) = read (table_counts t)

-- the record of what was loaded
abbrev pub record_of : Loaded → Container
record_of l =
    record {
      header = l.header;
      tasks = task_counts l.tasks;
      types = type_counts l.types;
      constants = length l.constants;
      debug = debug_counts l.debug;
      in_force = l.in_force;
    }

-- what `read_from` answers
abbrev pub read_from : (List ℕ → List ℕ) → List ℕ → Got Container
read_from hash f = load hash f >>= λ l. found (record_of l)

-- Programs: their own limit comes first, whatever the library answers

-- what a program answers for a file of which the library answers x
abbrev pub for_program : {A : Type 0} → List ℕ → Got A → Got A
for_program f x = need (leb (length f) program_limit) too_long >> x

-- what `read_for_program` answers
abbrev pub program_read : (List ℕ → List ℕ) → List ℕ → Got Container
program_read hash f = for_program f (read_from hash f)
