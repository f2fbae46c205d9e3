-- What holds of a file that loads.
use Prim.Native.Nat.{ℕ}
use mathlib.Core.Path.{◌≡◌, refl, ap, subst, ◌∙◌}
use mathlib.Core.Bool.{Bool, true, false, ◌&&◌, cond}
use mathlib.Core.List.{List}
use mathlib.Core.Option.{none, some}
use lib.Dec.{leb, ltb}
use lib.ListN.{length}
use Rattle.reading.specs.Answer.{found, ◌>>=◌, need, item_of}
use Rattle.format.specs.Faults.{too_long}
use Rattle.format.specs.Parts.{limit, cut, is_inside, by_bytes}
use Rattle.format.specs.Header.{Header, header_of, types_flag}
use Rattle.format.specs.Integrity.{content_fits}
use Rattle.format.specs.Tasks.{task_table}
use Rattle.format.specs.Types.{TypeTables, type_tables}
use Rattle.format.specs.Constants.{constants}
use Rattle.format.specs.Code.{code_of}
use Rattle.format.specs.Debug.{Tables}
use Rattle.format.specs.Load.{Loaded, read_in, has_types, types_found, debug_sized, debug_inside, debug_hash_right, debug_of, debug_found, in_force_found, load}
use Rattle.format.proofs.Answers.{absent, same-found, same_some, steps, needed, first_of, second-of}

pub record Facts (hash : List ℕ → List ℕ) (f : List ℕ) (l : Loaded) : Type 0 where
  pub short : leb (length f) limit ≡ true
  pub header : header_of f ≡ found l.header
  pub tasks : read_in f l.header.directory.tasks task_table ≡ found l.tasks
  pub types : types_found f l.header ≡ found l.types
  pub constants : read_in f l.header.directory.constants (constants by_bytes) ≡ found l.constants
  pub code : read_in f l.header.directory.code (code_of l.header.runtime.functions) ≡ found l.code
  pub debug : debug_found hash f l.header ≡ l.debug
  pub in-force : in_force_found hash f l.header ≡ l.in_force

pub facts : (hash : List ℕ → List ℕ) (f : List ℕ) (l : Loaded) → load hash f ≡ found l → Facts hash f l
unfolding load
facts hash f l e =
    let a = steps (need (leb (length f) limit) too_long) e in
    let b = steps (header_of f) a.second in
    let h = b.item in
    let c = steps (content_fits hash f h) b.second in
    let t = steps (read_in f h.directory.tasks task_table) c.second in
    let y = steps (types_found f h) t.second in
    let k = steps (read_in f h.directory.constants (constants by_bytes)) y.second in
    let m = steps (read_in f h.directory.code (code_of h.runtime.functions)) k.second in
    subst (λ (x : Loaded). Facts hash f x) (same-found m.second)
    (record {
      short = needed (leb (length f) limit) too_long a.first;
      header = b.first;
      tasks = t.first;
      types = y.first;
      constants = k.first;
      code = m.first;
      debug = refl;
      in-force = refl;
    })

types-inside : (f : List ℕ) (h : Header) → has_types f h ≡ true → is_inside f h.directory.types ≡ true
unfolding has_types
types-inside f h e = second-of (types_flag h.flags && ltb 0 h.directory.types.size) (is_inside f h.directory.types) e

-- types that are there were read inside the file
pub types-read : (f : List ℕ) (h : Header) (t : TypeTables) → types_found f h ≡ found (some t)
    → (is_inside f h.directory.types ≡ true) × (item_of (type_tables (cut f h.directory.types)) ≡ found t)
unfolding types_found
types-read f h t e = go (has_types f h) refl e
  where
    go : (z : Bool) → has_types f h ≡ z → cond z (item_of (type_tables (cut f h.directory.types)) >>= λ t. found (some t)) (found none) ≡ found (some t)
        → (is_inside f h.directory.types ≡ true) × (item_of (type_tables (cut f h.directory.types)) ≡ found t)
    go true i e = let k = steps (item_of (type_tables (cut f h.directory.types))) e in (types-inside f h i, k.first ∙ ap found (same_some (same-found k.second)))
    go false i e = absent (same-found e)

-- debug that is there was read inside the file
pub debug-read : (hash : List ℕ → List ℕ) (f : List ℕ) (h : Header) (t : Tables (List ℕ)) → debug_found hash f h ≡ some t
    → (is_inside f h.directory.debug ≡ true) × (debug_of (cut f h.directory.debug) ≡ some t)
unfolding debug_found
debug-read hash f h t e = go (debug_sized h && debug_inside f h && debug_hash_right hash f h) refl e
  where
    go : (z : Bool) → debug_sized h && debug_inside f h && debug_hash_right hash f h ≡ z → cond z (debug_of (cut f h.directory.debug)) none ≡ some t
        → (is_inside f h.directory.debug ≡ true) × (debug_of (cut f h.directory.debug) ≡ some t)
    go true i e = (second-of (debug_sized h) (debug_inside f h) (first_of (debug_sized h && debug_inside f h) (debug_hash_right hash f h) i), e)
    go false i e = absent e
