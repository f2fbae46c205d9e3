-- Over a file and its own record every lookup is indexing into what was loaded.
use Prim.Native.Nat.{ℕ}
use mathlib.Core.Path.{◌≡◌, ◌∙◌}
use mathlib.Core.Bool.{true}
use mathlib.Core.List.{List}
use mathlib.Core.Option.{Option, none, some}
use lib.Dec.{leb}
use lib.ListN.{length}
use Rattle.reading.specs.Reader.{Read, fault, got, Reader}
use Rattle.reading.specs.Answer.{found, present, item_of}
use Rattle.format.specs.Faults.{no_array, no_debug}
use Rattle.format.specs.Parts.{limit, Place, cut, by_bytes}
use Rattle.format.specs.Header.{Header}
use Rattle.format.specs.Types.{TypeTables, type_tables}
use Rattle.format.specs.Debug.{Tables, debug_tables}
use Rattle.format.specs.Load.{Loaded, load, read_in, readable, types_found, debug_of, debug_found}
use Rattle.format.specs.Record.{type_counts, debug_counts, record_of}
use Rattle.format.specs.Lookups.{read_at, tasks_in, types_by, types_in, constants_in, code_in, or_no_debug, debug_at, debug_by, debug_in}
use Rattle.format.specs.OwnRecord.{OwnRecord}
use Rattle.format.proofs.Answers.{absent, same_some}
use Rattle.format.proofs.Places.{read_is}
use Rattle.format.proofs.Loads.{facts, types-read, debug-read}
use Rattle.format.proofs.PlacesHold.{places-hold}

-- a file within the limit
pub read-at : {A : Type 0} (f : List ℕ) (p : Place) (r : Reader A) → leb (length f) limit ≡ true → read_at f p r ≡ read_in f p r
unfolding read_at
read-at f p r s = rw s

types-own : (f : List ℕ) (h : Header) (x : Option TypeTables) → leb (length f) limit ≡ true → types_found f h ≡ found x
    → types_by f h.directory.types (type_counts x) ≡ present no_array x
types-own f h none s e = rw s
types-own f h (some t) s e =
    let k = types-read f h t e in
    read-at f h.directory.types type_tables s ∙ read_is f h.directory.types type_tables k.0 ∙ k.1

-- a section that reads
reads : {A : Type 0} (x : Read A) (a : A) → readable x ≡ some a → or_no_debug (item_of x) ≡ found a
reads (fault f) a e = absent e
reads (got b t) a e = let z : b ≡ a = same_some e in rw z

debug-of : (s : List ℕ) (t : Tables (List ℕ)) → debug_of s ≡ some t → or_no_debug (item_of (debug_tables by_bytes s)) ≡ found t
unfolding debug_of
debug-of s t e = reads (debug_tables by_bytes s) t e

-- the five sections, each read with the file's own record
pub record Own (f : List ℕ) (l : Loaded) : Type 0 where
  pub tasks : tasks_in f (record_of l) ≡ found l.tasks
  pub types : types_in f (record_of l) ≡ present no_array l.types
  pub constants : constants_in (λ p. by_bytes) f (record_of l) ≡ found l.constants
  pub code : code_in f (record_of l) ≡ found l.code
  pub debug : debug_in (λ p. by_bytes) f (record_of l) ≡ present no_debug l.debug

debug-own : (hash : List ℕ → List ℕ) (f : List ℕ) (l : Loaded) → leb (length f) limit ≡ true → debug_found hash f l.header ≡ l.debug
    → debug_in (λ p. by_bytes) f (record_of l) ≡ present no_debug l.debug
unfolding debug_in debug_at
debug-own hash f l s e = go l.debug e
  where
    p : Place
    p = l.header.directory.debug

    go : (x : Option (Tables (List ℕ))) → debug_found hash f l.header ≡ x → debug_by by_bytes f p (debug_counts x) ≡ present no_debug x
    go none e = rw s
    go (some t) e = let k = debug-read hash f l.header t e in rw (s, read_is f p (debug_tables by_bytes) k.0) (debug-of (cut f p) t k.1)

pub own : (hash : List ℕ → List ℕ) (f : List ℕ) (l : Loaded) → load hash f ≡ found l → Own f l
own hash f l e =
    let k = facts hash f l e in
    record {
      tasks = read-at f _ _ k.short ∙ k.tasks;
      types = types-own f l.header l.types k.short k.types;
      constants = read-at f _ _ k.short ∙ k.constants;
      code = read-at f _ _ k.short ∙ k.code;
      debug = debug-own hash f l k.short k.debug;
    }

pub own-record : (hash : List ℕ → List ℕ) → OwnRecord hash
own-record hash f l e =
    let k = own hash f l e in
    let p = places-hold f (record_of l) in
    record { run = p.run ∙ rw (k.tasks, k.types, k.constants, k.code); debug = p.debug ∙ rw k.debug }
