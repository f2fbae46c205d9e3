-- An entry of the directory at a place, and lookups by position.
use mathlib.Core.Path.{◌≡◌, refl, sym, ap, ◌∙◌}
use mathlib.Core.List.{List, []}
use Prim.Native.Nat.{ℕ, ◌+◌, ◌*◌, ◌-◌, ◌≤◌, ◌<◌}
use native.Mathlib.Decide.{dec_le}
use native.Mathlib.Omega.{arith}
use lib.ListN.{length, drop, length-drop}
use borrow.Author.Tests.{le-leb, lt-leb}
use Rattle.reading.specs.Fault.{Fault, short_input}
use Rattle.reading.specs.Numbers.{le_at}
use Rattle.reading.specs.Reader.{fault, got, many}
use Rattle.reading.specs.Answer.{Got, refused, found, ◌>>=◌, item_of, indexed}
use Rattle.reading.specs.Places.{stops_by, on_to, Goes, left_of, GivesFrom}
use Rattle.reading.proofs.Parts.{length_part}
use Rattle.reading.proofs.Reading.{both, number_at}
use Rattle.reading.proofs.Width.{fixed-many}
use Rattle.reading.proofs.Left.{stays-local, walk-is-table}
use Rattle.format.specs.Faults.{no_function}
use Rattle.format.specs.Parts.{part, Place, cut, Inside, by_place}
use Rattle.format.specs.Code.{Function, function, Code, code_of, bytecode_of}
use Rattle.format.specs.Lookups.{read_at, function_of, function_bytes_of}
use Rattle.format.proofs.Widths.{function-fixed}
use Rattle.format.proofs.Answers.{never, item-got}
use Rattle.format.proofs.Readers.{local-function}
use Rattle.code_section.specs.Lookups.{func_entry_size, code_reads, directory_at, next_function_at}
use Rattle.code_section.specs.Laws.{Laws}
use Rattle.base.proofs.FileLookups.{Answered, answered, placed}
use Rattle.base.proofs.FileWalks.{opened, walk-gives-from}

pub function-at : (s : List ℕ) (at : ℕ) → at + func_entry_size ≤ length s → function (drop at s)
    ≡ got
    (record {
      id = le_at 2 s at;
      offset = le_at 4 s (at + 2);
      size = le_at 4 s (at + 6);
      max_stack_depth = le_at 2 s (at + 10);
      locals = le_at 2 s (at + 12);
      parameters = le_at 2 s (at + 14);
    })
    (drop (at + func_entry_size) s)
unfolding function
function-at s at h =
    rw (
      number_at 2 s at (at + 2) refl (omega arith),
      number_at 4 s (at + 2) (at + 6) (omega arith) (omega arith),
      number_at 4 s (at + 6) (at + 10) (omega arith) (omega arith),
      number_at 2 s (at + 10) (at + 12) (omega arith) (omega arith),
      number_at 2 s (at + 12) (at + 14) (omega arith) (omega arith),
      number_at 2 s (at + 14) (at + func_entry_size) (omega arith) h,
    )

-- the section, by whether its directory is there
module _ (n : ℕ) (s : List ℕ) where
  code-short : length s < func_entry_size * n → code_of n s ≡ fault short_input
  unfolding code_of
  code-short h = rw ((fixed-many n function-fixed).short s h)

  record Directory : Type 0 where
    functions : List Function
    reads : many n function s ≡ got functions (drop (func_entry_size * n) s)
    code : code_of n s ≡ got (record { functions = functions; bytecode = drop (func_entry_size * n) s }) []

  directory : func_entry_size * n ≤ length s → Directory
  unfolding code_of
  directory h = let k = (fixed-many n function-fixed).whole s h in record { functions = k.0; reads = k.1; code = rw k.1 }

  -- whether the section reads, by whether its directory is passed over
  pub code-stop : (f : Fault) → Goes (many n function) s 0 (stops_by f) → refused f ≡ code_reads n s
  unfolding code_of
  code-stop f e = rw e

  pub code-passed : (k : ℕ) → Goes (many n function) s 0 (on_to k) → found tt ≡ code_reads n s
  unfolding code_of
  code-passed k q = rw q.1.1

  short-refused : {A : Type 0} (go : Code → Got A) → length s < func_entry_size * n → refused short_input ≡ (item_of (code_of n s) >>= go)
  short-refused go h = rw (code-short h)

  pub code-good : {A : Type 0} (a : A) → func_entry_size * n ≤ length s → found a ≡ (item_of (code_of n s) >>= λ c. found a)
  code-good a h = rw (directory h).code

  pub code-long : found tt ≡ code_reads n s → func_entry_size * n ≤ length s
  code-long e = go (dec_le (func_entry_size * n) (length s))
    where
      go : Dec (func_entry_size * n ≤ length s) → func_entry_size * n ≤ length s
      go (yes l) = l
      go (no l) = never (short-refused (λ c. found tt) (omega arith) ∙ sym e)

  -- the function at a position
  pub function-is : (k : ℕ) → func_entry_size * n ≤ length s → (x : Got Function) → ((xs : List Function) (rest : List ℕ) → left_of function s (record { at = 0; count = n }) ≡ got xs rest → x ≡ indexed no_function xs k)
      → x ≡ (item_of (code_of n s) >>= function_of k)
  function-is k l x h = let d = directory l in rw d.code (h d.functions (drop (func_entry_size * n) s) d.reads)

-- a function that was found in the section at a place of the file, and its bytecode behind the directory
module _ (f : List ℕ) (p : Place) (n k : ℕ) (x : Function) where
  pub record Located : Type 0 where
    pub inside : Inside f p
    pub room : func_entry_size * n ≤ p.size
    pub bytecode : (read_at f p (code_of n) >>= function_bytes_of (by_place p) k) ≡ bytecode_of (by_place p) (drop (func_entry_size * n) (cut f p)) x

  pub located : found x ≡ (read_at f p (code_of n) >>= function_of k) → Located
  located e = go (answered f p (code_of n) (function_of k) e) (dec_le (func_entry_size * n) (length (cut f p)))
    where
      go : Answered f p (code_of n) (function_of k) → Dec (func_entry_size * n ≤ length (cut f p)) → Located
      go a (yes i) =
          let d = directory n (cut f p) i in
          let l = length_part f p.offset p.size a.inside.within in
          let g = rw (a.reads, d.code) at e in
          record { inside = a.inside; room = omega arith; bytecode = rw (a.reads, d.code, ← g) }
      go a (no i) = never (sym (rw (a.reads, code-short n (cut f p) (omega arith)) at e))

  module _ (h : Located) where
    behind : length (drop (func_entry_size * n) (cut f p)) ≡ p.size - func_entry_size * n
    behind = length-drop (func_entry_size * n) (cut f p) ∙ ap (λ (l : ℕ). l - func_entry_size * n) (length_part f p.offset p.size h.inside.within)

    pub bytecode-outside : p.size - func_entry_size * n < x.offset + x.size → refused no_function ≡ (read_at f p (code_of n) >>= function_bytes_of (by_place p) k)
    bytecode-outside o = rw (h.bytecode, behind, lt-leb (x.offset + x.size) (p.size - func_entry_size * n) o)

    pub bytecode-inside : x.offset + x.size ≤ p.size - func_entry_size * n
        → found (record { offset = p.offset + func_entry_size * n + x.offset; size = x.size }) ≡ (read_at f p (code_of n) >>= function_bytes_of (by_place p) k)
    bytecode-inside i =
        let l = length_part (drop (func_entry_size * n) (cut f p)) x.offset x.size (omega (arith, behind)) in
        let r = h.room in
        rw (
          h.bytecode,
          behind,
          le-leb (x.offset + x.size) (p.size - func_entry_size * n) i,
          placed p (part x.offset x.size (drop (func_entry_size * n) (cut f p))) (p.offset + func_entry_size * n + x.offset) x.size (p.size - func_entry_size * n - (x.offset + x.size)) l (omega arith),
        )

-- a walk over the directory in a file
functions-read : (n : ℕ) (s : List ℕ) (c : Code) (rest : List ℕ) → code_of n s ≡ got c rest → (x : List ℕ) × (many n function s ≡ got c.functions x)
unfolding code_of
functions-read n s c rest e =
    let k = both (many n function s) e in
    let z : record { functions = k.item; bytecode = k.middle } ≡ c = cc k.second in
    (k.middle, k.first ∙ ap (λ (v : Code). got v.functions k.middle) z)

walk-in : (f : List ℕ) (p : Place) (n : ℕ) (c : Code) → read_at f p (code_of n) ≡ found c → GivesFrom (directory_at f p n) (next_function_at f p) c.functions
walk-in f p n c e =
    let g = item-got (code_of n (cut f p)) c (opened f p (code_of n) c e).reads in
    let d = functions-read n (cut f p) c g.0 g.1 in
    walk-gives-from f p (code_of n) c e function (stays-local (cut f p) local-function) (λ v. record { at = 0; count = n }) c.functions d.0 d.1

pub laws : Laws
laws = record { walk = λ s n. walk-is-table s function (stays-local s local-function) n (record { at = 0; count = n }) refl; walk_in = walk-in }
