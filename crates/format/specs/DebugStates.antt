-- The states of a file's debug section (document 01, "Reading", 5): which test decides, in the paper's order, and that loading keeps what `debug_found`
-- says. Every file and header meets the premises of exactly one of the first five laws.
use Rattle.std.specs.Prelude.{ℕ, ◌<◌, ◌≡◌, true, false, List}
use Rattle.reading.specs.Fault.{Fault}
use Rattle.reading.specs.Reader.{fault, got}
use Rattle.format.specs.Parts.{cut, is_inside, by_bytes}
use Rattle.format.specs.Header.{Header}
use Rattle.format.specs.Integrity.{debug_hash_fits}
use Rattle.format.specs.Debug.{Tables, debug_tables}
use Rattle.format.specs.Load.{debug_found, empty, outside, hash_differs, unreadable, read, debug_state, debug_kept}
use Rattle.format.specs.Record.{table_counts, state_counts}

pub record DebugStates (hash : List ℕ → List ℕ) (f : List ℕ) (h : Header) : Type 0 where
  -- "Debug is read if its size is above 0"
  pub size-zero : h.directory.debug.size ≡ 0 → debug_state hash f h ≡ empty
  -- "Out of the file, before byte 256"
  pub not-inside : 0 < h.directory.debug.size → is_inside f h.directory.debug ≡ false → debug_state hash f h ≡ outside
  -- "hash unequal (zero matches anything)"
  pub hash-unequal : 0 < h.directory.debug.size → is_inside f h.directory.debug ≡ true → debug_hash_fits hash h.debug_hash (cut f h.directory.debug) ≡ false
      → debug_state hash f h ≡ hash_differs
  -- "or unreadable", with the section's fault
  pub section-faulty : 0 < h.directory.debug.size → is_inside f h.directory.debug ≡ true → debug_hash_fits hash h.debug_hash (cut f h.directory.debug) ≡ true
      → (e : Fault) → debug_tables by_bytes (cut f h.directory.debug) ≡ fault e → debug_state hash f h ≡ unreadable e
  pub section-reads : 0 < h.directory.debug.size → is_inside f h.directory.debug ≡ true → debug_hash_fits hash h.debug_hash (cut f h.directory.debug) ≡ true
      → (t : Tables (List ℕ)) (rest : List ℕ) → debug_tables by_bytes (cut f h.directory.debug) ≡ got t rest → debug_state hash f h ≡ read t
  -- "the container loads with no debug" in every state but the last
  pub kept : debug_kept (debug_state hash f h) ≡ debug_found hash f h

-- by its counts a section is in the same state
pub record CountedStates : Type 0 where
  pub empty-stays : state_counts {T = List ℕ} empty ≡ empty
  pub outside-stays : state_counts {T = List ℕ} outside ≡ outside
  pub hash-differs-stays : state_counts {T = List ℕ} hash_differs ≡ hash_differs
  pub unreadable-stays : (e : Fault) → state_counts {T = List ℕ} (unreadable e) ≡ unreadable e
  pub read-counted : (t : Tables (List ℕ)) → state_counts (read t) ≡ read (table_counts t)
