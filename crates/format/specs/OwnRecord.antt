-- What the answers mean: the bytes at an answered place are those that the tables hold; and over a file and the record read from it,
-- every lookup is indexing into what was loaded.
use Rattle.std.specs.Prelude.{ℕ, ◌≡◌, List}
use Rattle.reading.specs.Answer.{found, present}
use Rattle.format.specs.Faults.{no_array, no_debug}
use Rattle.format.specs.Parts.{by_bytes}
use Rattle.format.specs.Load.{Loaded, load}
use Rattle.format.specs.Record.{Container, record_of}
use Rattle.format.specs.Lookups.{tasks_in, types_in, constants_in, code_in, debug_in, run_answers_of, debug_answers_of, run_answers, debug_answers, run_by_bytes, debug_by_bytes}

-- over any file and record: the bytes at the answered places are those of the strings, bytecode, names and paths
pub record PlacesHold (f : List ℕ) (r : Container) : Type 0 where
  pub run : run_by_bytes f (run_answers f r) ≡ run_answers_of by_bytes (tasks_in f r) (types_in f r) (constants_in (λ p. by_bytes) f r) (code_in f r)
  pub debug : debug_by_bytes f (debug_answers f r) ≡ debug_answers_of (debug_in (λ p. by_bytes) f r)

-- over a file and its own record; without types or debug the answer is 16 or 15
pub record Indexing (f : List ℕ) (l : Loaded) : Type 0 where
  pub run : run_by_bytes f (run_answers f (record_of l)) ≡ run_answers_of by_bytes (found l.tasks) (present no_array l.types) (found l.constants) (found l.code)
  pub debug : debug_by_bytes f (debug_answers f (record_of l)) ≡ debug_answers_of (present no_debug l.debug)

abbrev pub OwnRecord : (List ℕ → List ℕ) → Type 0
OwnRecord hash = (f : List ℕ) (l : Loaded) → load hash f ≡ found l → Indexing f l
