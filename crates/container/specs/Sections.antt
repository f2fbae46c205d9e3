-- On the way to a container: the sections at their places, each only by its counts.
use Rattle.std.specs.Prelude.{ℕ, ◌≤◌, ◌&&◌, cond, List, ◌≡◌, leb, length}
use Rattle.std.proofs.Math.Option.{Option, none, some}
use Rattle.reading.specs.Answer.{Got, found, ◌>>=◌, item_of}
use Rattle.format.specs.Parts.{limit, Place, cut, is_inside, by_bytes}
use Rattle.format.specs.Header.{Header, header_of}
use Rattle.format.specs.Integrity.{content_fits}
use Rattle.format.specs.Tasks.{task_table}
use Rattle.format.specs.Types.{type_tables}
use Rattle.format.specs.Constants.{constants}
use Rattle.format.specs.Code.{code_of}
use Rattle.format.specs.Debug.{debug_tables}
use Rattle.format.specs.InForce.{InForce, none_in_force, in_force_in}
use Rattle.format.specs.Load.{types_found, debug_sized, debug_found, in_force_found, DebugState, empty, outside, hash_differs, state_of_read, debug_state}
use Rattle.format.specs.Record.{TaskCounts, TypeCounts, DebugCounts, Container, task_counts, type_counts, debug_counts, state_counts}
use Rattle.format.specs.Lookups.{read_at}
use Rattle.blake3.specs.Blake3.{blake3}
use Rattle.integrity.specs.Hashes.{debug_fits}

-- a file within the limit, with a header and a content hash that are not refused
pub record Accepted (f : List ℕ) (h : Header) : Type 0 where
  pub short : length f ≤ limit
  pub header : header_of f ≡ found h
  pub content : content_fits blake3 f h ≡ found tt

-- tasks, constants and code: 10, then 4, then the section's own refusal
abbrev pub task_counts_at : List ℕ → Place → Got TaskCounts
task_counts_at f p = read_at f p task_table >>= λ t. found (task_counts t)

abbrev pub constant_count_at : List ℕ → Place → Got ℕ
constant_count_at f p = read_at f p (constants by_bytes) >>= λ cs. found (length cs)

abbrev pub code_reads_at : List ℕ → Place → ℕ → Got (Unit {0})
code_reads_at f p n = read_at f p (code_of n) >>= λ c. found tt

-- types with their flag set and a size above 0: none where they are not in the file behind the header, else their refusal or counts
abbrev pub type_counts_at : List ℕ → Place → Got (Option TypeCounts)
type_counts_at f p = cond (is_inside f p) (item_of (type_tables (cut f p)) >>= λ t. found (type_counts (some t))) (found none)

abbrev pub type_counts_of : List ℕ → Header → Got (Option TypeCounts)
type_counts_of f h = types_found f h >>= λ t. found (type_counts t)

-- a debug section of the bytes `s`, by its hash and its reader
abbrev pub section_state : List ℕ → List ℕ → DebugState DebugCounts
section_state d s = cond (debug_fits d s) (state_counts (state_of_read (debug_tables by_bytes s))) hash_differs

-- What `debug_state` answers over any file and header: the state of the debug section, BLAKE3 being the hash, by its counts. In a file over the limit,
-- which loading refuses before it comes to debug, no section counts as inside
unfoldable pub debug_state_of : List ℕ → Header → DebugState DebugCounts
debug_state_of f h = cond (leb (length f) limit) (state_counts (debug_state blake3 f h)) (cond (debug_sized h) outside empty)

-- the rows of the tables in force in a file's debug section, by what was loaded of it: none where nothing was, or where the section is not in the file
abbrev pub in_force_at : {A : Type 0} → List ℕ → Place → Option A → InForce
in_force_at f p none = none_in_force
in_force_at f p (some counts) = cond (leb (length f) limit && is_inside f p) (in_force_in (cut f p)) none_in_force

-- the record of an accepted file
abbrev pub record_from : List ℕ → Header → Got Container
record_from f h = do
  tasks ← task_counts_at f h.directory.tasks
  types ← type_counts_of f h
  constants ← constant_count_at f h.directory.constants
  code ← code_reads_at f h.directory.code h.runtime.functions
  found
      (record {
        header = h;
        tasks = tasks;
        types = types;
        constants = constants;
        debug = debug_counts (debug_found blake3 f h);
        in_force = in_force_found blake3 f h;
      })
