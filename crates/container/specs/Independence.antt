-- Demand 3 of the code, BLAKE3 being the hash: over `read_from blake3`, which `read_from` is proved to answer, and over `run_answers` and `debug_answers`,
-- which the record's lookups are proved to answer.
use Rattle.std.specs.Prelude.{ℕ, ◌≡◌, List}
use Rattle.reading.specs.Answer.{found, ◌>>=◌}
use Rattle.format.specs.Load.{Loaded, load}
use Rattle.format.specs.Record.{Container, read_from}
use Rattle.format.specs.RunSide.{SameRunSide, run_of, run_record_of}
use Rattle.format.specs.UnknownTables.{TablesAdded, SameDebug, SameDebugRecords}
use Rattle.blake3.specs.Blake3.{blake3}

-- First half. Both files load and run the same, or both are refused with the same number and values: by the answers, and by the tables
-- that these come from
pub record RunAlike (f g : List ℕ) : Type 0 where
  pub answers : (read_from blake3 f >>= λ r. found (run_record_of f r)) ≡ (read_from blake3 g >>= λ s. found (run_record_of g s))
  pub tables : (load blake3 f >>= λ a. found (run_of f a)) ≡ (load blake3 g >>= λ b. found (run_of g b))

-- the premises: both files within the limit, headers that agree outside the debug bit, the debug hash and the directory, and the same four sections, which lie
-- in both files behind the header, empty types anywhere
abbrev pub SameRun : List ℕ → List ℕ → Type 0
SameRun f g = SameRunSide f g → RunAlike f g

-- Second half. Two files that load, the second's debug section being the first's with unknown tables added: both have debug, with the same counts and
-- tables, each having replaced as many earlier ones, and the same answers
pub record DebugAlike (f g : List ℕ) : Type 0 where
  pub answers : (r s : Container) → read_from blake3 f ≡ found r → read_from blake3 g ≡ found s → TablesAdded blake3 f r.header g s.header → SameDebugRecords f r g s
  pub tables : (a b : Loaded) → load blake3 f ≡ found a → load blake3 g ≡ found b → TablesAdded blake3 f a.header g b.header → SameDebug f a g b
