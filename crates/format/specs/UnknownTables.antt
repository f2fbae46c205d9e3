-- Demand 3, second half: debug tables of unknown kinds alter none of the six known ones.
use Rattle.std.specs.Prelude.{ℕ, ◌≡◌, true, List}
use Rattle.std.proofs.Math.Option.{some}
use Rattle.reading.specs.Answer.{found}
use Rattle.format.specs.Parts.{cut, Inside}
use Rattle.format.specs.Header.{Header}
use Rattle.format.specs.Integrity.{debug_hash_fits}
use Rattle.format.specs.Debug.{Tables}
use Rattle.format.specs.InForce.{replaced_counts}
use Rattle.format.specs.Load.{Loaded, load, debug_of}
use Rattle.format.specs.Record.{DebugCounts, Container, record_of, read_from}
use Rattle.format.specs.Lookups.{debug_answers, debug_by_bytes}
use Rattle.format.specs.Added.{Added}

-- the file's debug section
abbrev pub debug_bytes : List ℕ → Header → List ℕ
debug_bytes f h = cut f h.directory.debug

-- The premises on two files that load, of their headers: the second's debug section is the first's with unknown tables added, both
-- sections lie in their files behind the header, their debug hashes fit, and the first section reads
pub record TablesAdded (hash : List ℕ → List ℕ) (f : List ℕ) (h : Header) (g : List ℕ) (k : Header) : Type 0 where
  pub added : Added (debug_bytes f h) (debug_bytes g k)
  pub first-inside : Inside f h.directory.debug
  pub second-inside : Inside g k.directory.debug
  pub first_fits : debug_hash_fits hash h.debug_hash (debug_bytes f h) ≡ true
  pub second_fits : debug_hash_fits hash k.debug_hash (debug_bytes g k) ≡ true
  pub first_reads : (t : Tables (List ℕ)) × (debug_of (debug_bytes f h) ≡ some t)

-- both have debug, with the same six tables, and each file with its own record gives the same answers, names and paths by their bytes. Document 02, slip 2:
-- "Row numbers may shift when unknown tables are added, so the independence rule leaves them out and covers the replaced counts."
pub record SameDebug (f : List ℕ) (a : Loaded) (g : List ℕ) (b : Loaded) : Type 0 where
  pub tables : Tables (List ℕ)
  pub in-first : a.debug ≡ some tables
  pub in-second : b.debug ≡ some tables
  pub replaced : replaced_counts a.in_force ≡ replaced_counts b.in_force
  pub answers : debug_by_bytes f (debug_answers f (record_of a)) ≡ debug_by_bytes g (debug_answers g (record_of b))

abbrev pub UnknownTables : (List ℕ → List ℕ) → Type 0
UnknownTables hash =
    (f g : List ℕ) (a b : Loaded) → load hash f ≡ found a → load hash g ≡ found b → TablesAdded hash f a.header g b.header → SameDebug f a g b

-- the same of the records that `read_from` answers
pub record SameDebugRecords (f : List ℕ) (r : Container) (g : List ℕ) (s : Container) : Type 0 where
  pub counts : DebugCounts
  pub in-first : r.debug ≡ some counts
  pub in-second : s.debug ≡ some counts
  pub replaced : replaced_counts r.in_force ≡ replaced_counts s.in_force
  pub answers : debug_by_bytes f (debug_answers f r) ≡ debug_by_bytes g (debug_answers g s)

abbrev pub UnknownTablesOfRecords : (List ℕ → List ℕ) → Type 0
UnknownTablesOfRecords hash =
    (f g : List ℕ) (r s : Container) → read_from hash f ≡ found r → read_from hash g ≡ found s → TablesAdded hash f r.header g s.header
    → SameDebugRecords f r g s
