-- Every refusal is of its function's list.
use Prim.Native.Nat.{ℕ, zero, suc, ◌+◌, ◌*◌, ◌≤◌}
use mathlib.Core.Path.{◌≡◌, refl, ap}
use mathlib.Core.Bool.{Bool, true, false, cond}
use mathlib.Core.List.{List, [], ◌∷◌}
use mathlib.Core.Option.{Option, none, some}
use native.Mathlib.Omega.{arith}
use lib.Dec.{leb, ltb, eqb}
use lib.ListN.{length, take, drop}
use borrow.Author.Tests.{leb-true, leb-false, eqb-false}
use Rattle.reading.specs.Fault.{Fault, short_input}
use Rattle.reading.specs.Numbers.{le_at}
use Rattle.reading.specs.Reader.{Read, fault, got, Reader, next, ◌>>=◌, give, check, bytes, number, many, counted, counted_or_none}
use Rattle.reading.specs.Answer as answer
use Rattle.reading.specs.Answer.{Got, refused, found, need, indexed, present, item_of}
use Rattle.format.specs.Faults.{too_long, invalid_magic, unsupported_version, section_size_mismatch, content_hash_mismatch, invalid_array_stride, invalid_constant_type, invalid_constant_index, no_function, no_line, unsorted_map, no_array, size_overflow, no_entry}
use Rattle.format.specs.Parts.{limit, Place, cut, is_inside, same, Keep, by_bytes, by_place}
use Rattle.format.specs.Header.{Header, header_of}
use Rattle.format.specs.Integrity.{section_in, hashed_in, hashed_string, no_hash, content_fits}
use Rattle.format.specs.Tasks.{task, program, TaskTable, task_table}
use Rattle.format.specs.Types.{field, fb_type, stride_fits, array, user_fb, TypeTables, type_tables}
use Rattle.format.specs.Constants.{is_number, Kept, Constant, kept_of, size_fits, constant, constants, number_in, as_number, string_in, as_string, char_width}
use Rattle.format.specs.Constants as kept
use Rattle.format.specs.Code.{Code, function, code_of, bytecode_of}
use Rattle.format.specs.Debug.{Line, Tables, debug_tables}
use Rattle.format.specs.Lines.{sorted, best_of, line_for}
use Rattle.format.specs.Load.{read_in, has_types, types_found, load}
use Rattle.format.specs.Record.{TypeCounts, DebugCounts, Container}
use Rattle.format.specs.Lookups.{read_at, tasks_in, types_by, types_in, constants_in, code_in, or_no_debug, debug_at, debug_by, debug_in}
use Rattle.format.specs.Lookups.{task_of, program_of, fb_type_of, field_of, array_of, byte_size, array_size_of, user_fb_of, constant_of, number_of, function_of, function_bytes_of, enumeration_of, enumeration_value_of, run_answers, debug_answers}
use Rattle.format.specs.Refusals.{OfTasks, OfTypes, OfConstants, OfCode, OfLoading, InSection, InDebug, OfEntry, OfTypeEntry, OfArray, OfArraySize, OfConstant, OfNumber, OfString, OfFunction, OfSourceLine}
use Rattle.format.specs.Refusals.{Only, OnlyRun, OnlyDebug, Refusals}
use Rattle.format.proofs.RefusalsGiven.{loading-given, run-given, debug-given}

-- Answers, one after the other

module _ (P : Fault → Type 0) where
  pub only_then : {A B : Type 0} (k : A → Got B) (x : Got A) → Only P x → ((a : A) → Only P (k a)) → Only P (answer.◌>>=◌ x k)
  only_then k (refused r) h g = h
  only_then k (found a) h g = g a

  pub only-need : (t : Bool) (r : Fault) → P r → Only P (need t r)
  only-need true r h = tt
  only-need false r h = h

  pub only-indexed : {A : Type 0} (out : Fault) (l : List A) (i : ℕ) → P out → Only P (indexed out l i)
  only-indexed out [] i h = h
  only-indexed out (a ∷ l) zero h = tt
  only-indexed out (a ∷ l) (suc i) h = only-indexed out l i h

  pub only-present : {A : Type 0} (out : Fault) (x : Option A) → P out → Only P (present out x)
  only-present out none h = h
  only-present out (some a) h = tt

  pub only-cond : {A : Type 0} (t : Bool) (x y : Got A) → (t ≡ true → Only P x) → (t ≡ false → Only P y) → Only P (cond t x y)
  only-cond true x y h g = h refl
  only-cond false x y h g = g refl

-- a list within another
pub only-within : {A : Type 0} (P Q : Fault → Type 0) → ((e : Fault) → P e → Q e) → (x : Got A) → Only P x → Only Q x
only-within P Q h (refused e) g = h e g
only-within P Q h (found a) g = tt

-- Readers

abbrev Fair : {A : Type 0} → (Fault → Type 0) → Read A → Type 0
Fair P (fault f) = P f
Fair P (got a s) = Unit {0}

-- every fault of a reader is of the list
abbrev pub Each : {A : Type 0} → (Fault → Type 0) → Reader A → Type 0
Each P r = (s : List ℕ) → Fair P (r s)

module _ (P : Fault → Type 0) where
  fair-next : {A B : Type 0} (f : A → Reader B) (x : Read A) → Fair P x → ((a : A) → Each P (f a)) → Fair P (next x f)
  fair-next f (fault r) h g = h
  fair-next f (got a s) h g = g a s

  each-then : {A B : Type 0} (r : Reader A) (f : A → Reader B) → Each P r → ((a : A) → Each P (f a)) → Each P (r >>= f)
  each-then r f h g s = fair-next f (r s) (h s) g

  each-check : (t : Bool) (x : Fault) → (t ≡ false → P x) → Each P (check t x)
  each-check true x h s = tt
  each-check false x h s = h refl

  -- a check, and what follows
  check-then : {B : Type 0} (t : Bool) (x : Fault) (f : Unit {0} → Reader B) → (t ≡ false → P x) → ((u : Unit {0}) → Each P (f u)) → Each P (check t x >>= f)
  check-then t x f h g = each-then (check t x) f (each-check t x h) g

  each-many : {A : Type 0} (n : ℕ) (r : Reader A) → Each P r → Each P (many n r)
  each-many zero r h s = tt
  each-many (suc n) r h s = each-then r (λ a. many n r >>= λ rest. give (a ∷ rest)) h (λ a. each-then (many n r) (λ rest. give (a ∷ rest)) (each-many n r h) (λ rest s. tt)) s

-- lists that have 1
module _ (P : Fault → Type 0) (short : P short_input) where
  each-bytes : (n : ℕ) → Each P (bytes n)
  unfolding bytes
  each-bytes n s = go (ltb (length s) n)
    where
      go : (z : Bool) → Fair P (cond z (fault short_input) (got (take n s) (drop n s)))
      go true = short
      go false = tt

  -- bytes or a number, and what follows
  bytes-then : {B : Type 0} (n : ℕ) (f : List ℕ → Reader B) → ((b : List ℕ) → Each P (f b)) → Each P (bytes n >>= f)
  bytes-then n f g = each-then P (bytes n) f (each-bytes n) g

  number-then : {B : Type 0} (n : ℕ) (f : ℕ → Reader B) → ((a : ℕ) → Each P (f a)) → Each P (number n >>= f)
  number-then n f g = each-then P (number n) f (bytes-then n _ (λ b s. tt)) g

  each-counted : {A : Type 0} (r : Reader A) → Each P r → Each P (counted r)
  each-counted r h = number-then 2 _ (λ n. each-many P n r h)

-- Tasks

task-number : {B : Type 0} (n : ℕ) (f : ℕ → Reader B) → ((a : ℕ) → Each OfTasks (f a)) → Each OfTasks (number n >>= f)
task-number = number-then OfTasks OfTasks.short

each-task : Each OfTasks task
unfolding task
each-task =
    task-number 2 _ λ i.
    task-number 2 _ λ p.
    task-number 1 _ λ k.
    task-number 1 _ λ f.
    task-number 8 _ λ t.
    task-number 2 _ λ v.
    task-number 8 _ λ w.
    task-number 2 _ λ m.
    task-number 2 _ λ o.
    bytes-then OfTasks OfTasks.short 4 _ λ b.
    check-then OfTasks (leb k 2) _ _ (λ e. OfTasks.task-type k (leb-false k 2 e)) λ u s. tt

each-program : Each OfTasks program
unfolding program
each-program =
    task-number 2 _ λ i.
    task-number 2 _ λ t.
    task-number 2 _ λ e.
    task-number 2 _ λ v.
    task-number 2 _ λ n.
    task-number 2 _ λ b.
    task-number 2 _ λ m.
    task-number 2 _ λ f s. tt

pub each-tasks : Each OfTasks task_table
unfolding task_table
each-tasks =
    task-number 2 _ λ n.
    task-number 2 _ λ m.
    task-number 2 _ λ g.
    each-then OfTasks (many n task) _ (each-many OfTasks n task each-task) λ ts.
    each-then OfTasks (many m program) _ (each-many OfTasks m program each-program) λ ps s. tt

-- Types

type-number : {B : Type 0} (n : ℕ) (f : ℕ → Reader B) → ((a : ℕ) → Each OfTypes (f a)) → Each OfTypes (number n >>= f)
type-number = number-then OfTypes OfTypes.short

type-table : {A : Type 0} (r : Reader A) → Each OfTypes r → Each OfTypes (counted r)
type-table = each-counted OfTypes OfTypes.short

each-field : Each OfTypes field
unfolding field
each-field =
    type-number 1 _ λ k.
    type-number 1 _ λ x.
    type-number 2 _ λ e.
    check-then OfTypes (leb k 10) _ _ (λ e. OfTypes.field-type k (leb-false k 10 e)) λ u s. tt

each-fb_type : Each OfTypes fb_type
unfolding fb_type
each-fb_type =
    type-number 2 _ λ i.
    type-number 1 _ λ n.
    type-number 1 _ λ x.
    each-then OfTypes (many n field) _ (each-many OfTypes n field each-field) λ fs s. tt

each-array : Each OfTypes array
unfolding array
each-array =
    type-number 1 _ λ k.
    type-number 1 _ λ x.
    type-number 4 _ λ n.
    type-number 2 _ λ e.
    type-number 4 _ λ w.
    check-then OfTypes (stride_fits k e w) (invalid_array_stride k w) _ (OfTypes.stride k e w) λ u s. tt

each-user_fb : Each OfTypes user_fb
unfolding user_fb
each-user_fb =
    type-number 2 _ λ i.
    type-number 2 _ λ f.
    type-number 2 _ λ v.
    type-number 1 _ λ n.
    type-number 1 _ λ x s. tt

each-user_fbs : Each OfTypes (counted_or_none user_fb)
each-user_fbs s = go (ltb (length s) 2)
  where
    go : (z : Bool) → Fair OfTypes (cond z (got [] s) (counted user_fb s))
    go true = tt
    go false = type-table user_fb each-user_fb s

pub each-types : Each OfTypes type_tables
unfolding type_tables
each-types =
    each-then OfTypes (counted fb_type) _ (type-table fb_type each-fb_type) λ ts.
    each-then OfTypes (counted array) _ (type-table array each-array) λ ns.
    each-then OfTypes (counted_or_none user_fb) _ each-user_fbs λ us s. tt

-- Constants

constant_number : {B : Type 0} (n : ℕ) (f : ℕ → Reader B) → ((a : ℕ) → Each OfConstants (f a)) → Each OfConstants (number n >>= f)
constant_number = number-then OfConstants OfConstants.short

-- a size that does not fit is a number's, and above 8
too_large : (kind size : ℕ) (number : Bool) → leb kind 5 ≡ number → cond number (leb size 8) true ≡ false → OfConstants (invalid_constant_type kind)
too_large kind size true e h = OfConstants.constant-size kind size (leb-true kind 5 e) (leb-false size 8 h)
too_large kind size false e h = absurd (let z : ◌≡◌ {A = ℕ} 0 1 = ap (λ (b : Bool). cond b 0 1) h in omega arith)

module _ {T : Type 0} (keep : Keep T) where
  each-constant : Each OfConstants (constant keep)
  unfolding constant
  each-constant =
      constant_number 1 _ λ k.
      constant_number 1 _ λ x.
      constant_number 2 _ λ n.
      check-then OfConstants (leb k 7) (invalid_constant_type k) _ (λ e. OfConstants.constant-type k (leb-false k 7 e)) λ u.
      check-then OfConstants (size_fits k n) (invalid_constant_type k) _ (too_large k n (leb k 5) refl) λ v.
      bytes-then OfConstants OfConstants.short n _ λ b s. tt

  pub each-constants : Each OfConstants (constants keep)
  unfolding constants
  each-constants = each-counted OfConstants OfConstants.short (constant keep) each-constant

-- Code

code-number : {B : Type 0} (n : ℕ) (f : ℕ → Reader B) → ((a : ℕ) → Each OfCode (f a)) → Each OfCode (number n >>= f)
code-number = number-then OfCode OfCode.short

each-function : Each OfCode function
unfolding function
each-function =
    code-number 2 _ λ i.
    code-number 4 _ λ o.
    code-number 4 _ λ n.
    code-number 2 _ λ t.
    code-number 2 _ λ l.
    code-number 2 _ λ p s. tt

pub each-code : (n : ℕ) → Each OfCode (code_of n)
unfolding code_of
each-code n = each-then OfCode (many n function) _ (each-many OfCode n function each-function) λ fs s. tt

-- Sections, in a list that has 4 and what reading the section gives

item-only : {A : Type 0} (P : Fault → Type 0) (x : Read A) → Fair P x → Only P (item_of x)
item-only P (fault f) h = h
item-only P (got a s) h = tt

section-only : (Q : Fault → Type 0) → Q section_size_mismatch → (f : List ℕ) (p : Place) → Only Q (section_in f p)
unfolding section_in
section-only Q place f p = only_then Q _ (need (is_inside f p) _) (only-need Q (is_inside f p) _ place) (λ u. tt)

read_only : {A : Type 0} (P Q : Fault → Type 0) → Q section_size_mismatch → ((e : Fault) → P e → Q e) → (f : List ℕ) (p : Place) (r : Reader A) → Each P r → Only Q (read_in f p r)
unfolding read_in
read_only P Q place own f p r h = only_then Q _ (section_in f p) (section-only Q place f p) (λ s. only-within P Q own (item_of (r s)) (item-only P (r s) (h s)))

-- Loading

hashed-only : (f : List ℕ) (p : Place) → Only OfLoading (hashed_in f p)
unfolding hashed_in
hashed-only f p = only-cond OfLoading (eqb p.size 0) (found []) (section_in f p) (λ e. tt) (λ e. section-only OfLoading OfLoading.place f p)

content-only : (hash : List ℕ → List ℕ) (f : List ℕ) (h : Header) → Only OfLoading (content_fits hash f h)
unfolding content_fits hashed_string
content-only hash f h =
    only-cond OfLoading (no_hash h.content_hash) (found tt) _ (λ e. tt) λ e.
    only_then OfLoading _ (hashed_string f h.directory)
    (only_then OfLoading _ (hashed_in f h.directory.tasks) (hashed-only f h.directory.tasks) λ t.
    only_then OfLoading _ (hashed_in f h.directory.types) (hashed-only f h.directory.types) λ y.
    only_then OfLoading _ (hashed_in f h.directory.constants) (hashed-only f h.directory.constants) λ c.
    only_then OfLoading _ (hashed_in f h.directory.code) (hashed-only f h.directory.code) λ k. tt)
    (λ s. only-need OfLoading (same (hash s) h.content_hash) content_hash_mismatch OfLoading.hash-unequal)

header-only : (f : List ℕ) → Only OfLoading (header_of f)
unfolding header_of
header-only f =
    only_then OfLoading _ (need (leb 256 (length f)) short_input) (only-need OfLoading (leb 256 (length f)) short_input OfLoading.short-header) λ a.
    only_then OfLoading _ (need (eqb (le_at 4 f 0) 0x49504C43) invalid_magic) (only-need OfLoading (eqb (le_at 4 f 0) 0x49504C43) invalid_magic OfLoading.magic) λ b.
    only_then OfLoading _ (need (eqb (le_at 2 f 4) 4) unsupported_version) (only-need OfLoading (eqb (le_at 2 f 4) 4) unsupported_version OfLoading.version) λ c. tt

types-only : (f : List ℕ) (h : Header) → Only OfLoading (types_found f h)
unfolding types_found
types-only f h =
    let s = cut f h.directory.types in
    only-cond OfLoading (has_types f h) _ (found none)
    (λ e. only_then OfLoading (λ t. found (some t)) (item_of (type_tables s))
    (only-within OfTypes OfLoading (λ e o. OfLoading.types o) (item_of (type_tables s)) (item-only OfTypes (type_tables s) (each-types s))) (λ t. tt))
    (λ e. tt)

loading : (hash : List ℕ → List ℕ) (f : List ℕ) → Only OfLoading (load hash f)
unfolding load
loading hash f =
    only_then OfLoading _ (need (leb (length f) limit) too_long) (only-need OfLoading (leb (length f) limit) too_long OfLoading.too-long) λ a.
    only_then OfLoading _ (header_of f) (header-only f) λ h.
    only_then OfLoading _ (content_fits hash f h) (content-only hash f h) λ b.
    only_then OfLoading _ (read_in f h.directory.tasks task_table)
    (read_only OfTasks OfLoading OfLoading.place (λ e o. OfLoading.tasks o) f h.directory.tasks task_table each-tasks) λ ts.
    only_then OfLoading _ (types_found f h) (types-only f h) λ ys.
    only_then OfLoading _ (read_in f h.directory.constants (constants by_bytes))
    (read_only OfConstants OfLoading OfLoading.place (λ e o. OfLoading.constants o) f h.directory.constants (constants by_bytes) (each-constants by_bytes)) λ cs.
    only_then OfLoading _ (read_in f h.directory.code (code_of h.runtime.functions))
    (read_only OfCode OfLoading OfLoading.place (λ e o. OfLoading.code o) f h.directory.code (code_of h.runtime.functions) (each-code h.runtime.functions)) λ k. tt

-- Lookups: the section first

module _ (Own Out : Fault → Type 0) where
  limit-only : (f : List ℕ) → Only (InSection Own Out) (need (leb (length f) limit) too_long)
  limit-only f = only-need (InSection Own Out) (leb (length f) limit) too_long InSection.too-long

  pub at_only : {A : Type 0} (f : List ℕ) (p : Place) (r : Reader A) → Each Own r → Only (InSection Own Out) (read_at f p r)
  unfolding read_at
  at_only f p r h =
      only_then (InSection Own Out) _ (need (leb (length f) limit) too_long) (limit-only f)
      (λ u. read_only Own (InSection Own Out) InSection.place (λ e o. InSection.section o) f p r h)

  -- and then the lookup in its tables
  pub section-then : {A B : Type 0} (k : A → Got B) (x : Got A) → Only (InSection Own Out) x → ((a : A) → Only Out (k a)) → Only (InSection Own Out) (answer.◌>>=◌ x k)
  section-then k x h g = only_then (InSection Own Out) k x h (λ a. only-within Out (InSection Own Out) (λ e o. InSection.lookup o) (k a) (g a))

types-by-only : (Out : Fault → Type 0) → Out no_array → (f : List ℕ) (p : Place) (t : Option TypeCounts) → Only (InSection OfTypes Out) (types_by f p t)
types-by-only Out absent f p none =
    only_then (InSection OfTypes Out) _ (need (leb (length f) limit) too_long) (limit-only OfTypes Out f) (λ u. InSection.lookup absent)
types-by-only Out absent f p (some c) = at_only OfTypes Out f p type_tables each-types

module _ (Out : Fault → Type 0) where
  debug-limit-only : (f : List ℕ) → Only (InDebug Out) (need (leb (length f) limit) too_long)
  debug-limit-only f = only-need (InDebug Out) (leb (length f) limit) too_long InDebug.too-long

  no-debug-only : {A : Type 0} (x : Got A) → Only (InDebug Out) (or_no_debug x)
  no-debug-only (refused r) = InDebug.no-debug
  no-debug-only (found a) = tt

  debug-by-only : {T : Type 0} (keep : Keep T) (f : List ℕ) (p : Place) (d : Option DebugCounts) → Only (InDebug Out) (debug_by keep f p d)
  unfolding debug_at
  debug-by-only keep f p none = only_then (InDebug Out) _ (need (leb (length f) limit) too_long) (debug-limit-only f) (λ u. InDebug.no-debug)
  debug-by-only keep f p (some c) = only_then (InDebug Out) _ (need (leb (length f) limit) too_long) (debug-limit-only f) (λ u. no-debug-only (read_in f p (debug_tables keep)))

  debug-only : {T : Type 0} (keep : Place → Keep T) (f : List ℕ) (r : Container) → Only (InDebug Out) (debug_in keep f r)
  unfolding debug_in
  debug-only keep f r = debug-by-only (keep r.header.directory.debug) f r.header.directory.debug r.debug

-- What the constants of a pool that reads are: of types 0 to 7, and kept as their type says

abbrev KeptAs : {T : Type 0} → Bool → Kept T → Type 0
KeptAs true (kept.number b) = Unit {0}
KeptAs true (kept.string t) = ⊥
KeptAs false (kept.number b) = ⊥
KeptAs false (kept.string t) = Unit {0}

record Typed {T : Type 0} (c : Constant T) : Type 0 where
  below-8 : c.kind ≤ 7
  kept-as : KeptAs (is_number c.kind) c.kept

-- what is read has a property
abbrev Yields : {A : Type 0} → (A → Type 0) → Read A → Type 0
Yields Q (fault f) = Unit {0}
Yields Q (got a s) = Q a

abbrev All : {A : Type 0} → (A → Type 0) → List A → Type 0
All Q [] = Unit {0}
All Q (a ∷ l) = Q a × All Q l

module _ {B : Type 0} (Q : B → Type 0) where
  yields-next : {A : Type 0} (f : A → Reader B) (x : Read A) → ((a : A) (s : List ℕ) → Yields Q (f a s)) → Yields Q (next x f)
  yields-next f (fault e) h = tt
  yields-next f (got a s) h = h a s

  yields-check : (t : Bool) (e : Fault) (f : Unit {0} → Reader B) (s : List ℕ) → (t ≡ true → Yields Q (f tt s)) → Yields Q (next (check t e s) f)
  yields-check true e f s h = h refl
  yields-check false e f s h = tt

  yields_more : (b : B) (x : Read (List B)) → Q b → Yields (All Q) x → Yields (All Q) (next x (λ rest. give (b ∷ rest)))
  yields_more b (fault e) q h = tt
  yields_more b (got l s) q h = (q, h)

  yields_both : (n : ℕ) (r : Reader B) (x : Read B) → Yields Q x → ((s : List ℕ) → Yields (All Q) (many n r s)) → Yields (All Q) (next x (λ b. many n r >>= λ rest. give (b ∷ rest)))
  yields_both n r (fault e) q h = tt
  yields_both n r (got b s) q h = yields_more b (many n r s) q (h s)

  yields-many : (n : ℕ) (r : Reader B) → ((s : List ℕ) → Yields Q (r s)) → (s : List ℕ) → Yields (All Q) (many n r s)
  yields-many zero r h s = tt
  yields-many (suc n) r h s = yields_both n r (r s) (h s) (yields-many n r h)

kept-typed : {T : Type 0} (z : Bool) (b : List ℕ) (t : T) → KeptAs z (cond z (kept.number b) (kept.string t))
kept-typed true b t = tt
kept-typed false b t = tt

module _ {T : Type 0} (keep : Keep T) where
  yields-constant : (s : List ℕ) → Yields Typed (constant keep s)
  unfolding constant kept_of
  yields-constant s =
      yields-next Typed _ (number 1 s) λ k s1.
      yields-next Typed _ (number 1 s1) λ x s2.
      yields-next Typed _ (number 2 s2) λ n s3.
      yields-check Typed (leb k 7) _ _ s3 λ e.
      yields-check Typed (size_fits k n) _ _ s3 λ v.
      yields-next Typed _ (bytes n s3) λ b s4. record { below-8 = leb-true k 7 e; kept-as = kept-typed (is_number k) _ _ }

  yields-constants : (s : List ℕ) → Yields (All Typed) (constants keep s)
  unfolding constants
  yields-constants s = yields-next (All Typed) _ (number 2 s) (λ n. yields-many Typed n (constant keep) yields-constant)

-- the same of an answer
abbrev Holds : {A : Type 0} → (A → Type 0) → Got A → Type 0
Holds Q (refused e) = Unit {0}
Holds Q (found a) = Q a

module _ {B : Type 0} (Q : B → Type 0) where
  holds_then : {A : Type 0} (k : A → Got B) (x : Got A) → ((a : A) → Holds Q (k a)) → Holds Q (answer.◌>>=◌ x k)
  holds_then k (refused e) h = tt
  holds_then k (found a) h = h a

  holds-item : (x : Read B) → Yields Q x → Holds Q (item_of x)
  holds-item (fault e) h = tt
  holds-item (got b s) h = h

  holds_at : (f : List ℕ) (p : Place) (r : Reader B) → ((s : List ℕ) → Yields Q (r s)) → Holds Q (read_at f p r)
  unfolding read_at read_in
  holds_at f p r h = holds_then _ (need (leb (length f) limit) too_long) λ u. holds_then _ (section_in f p) λ s. holds-item (r s) (h s)

  -- an answer to which the rest of a lookup is known only of what holds
  then-holds : (P : Fault → Type 0) {C : Type 0} (k : B → Got C) (x : Got B) → Only P x → Holds Q x → ((b : B) → Q b → Only P (k b)) → Only P (answer.◌>>=◌ x k)
  then-holds P k (refused e) h q g = h
  then-holds P k (found b) h q g = g b q

  indexed-holds : (P : Fault → Type 0) {C : Type 0} (out : Fault) (k : B → Got C) (l : List B) (i : ℕ) → P out → All Q l → ((b : B) → Q b → Only P (k b))
      → Only P (answer.◌>>=◌ (indexed out l i) k)
  indexed-holds P out k [] i h q g = h
  indexed-holds P out k (b ∷ l) zero h q g = g b q.0
  indexed-holds P out k (b ∷ l) (suc i) h q g = indexed-holds P out k l i h q.1 g

-- Then the lookup in the tables

entry-only : {A : Type 0} (l : List A) (i : ℕ) → Only OfEntry (indexed no_entry l i)
entry-only l i = only-indexed OfEntry no_entry l i OfEntry.no-entry

type-entry-only : {A : Type 0} (l : List A) (i : ℕ) → Only OfTypeEntry (indexed no_entry l i)
type-entry-only l i = only-indexed OfTypeEntry no_entry l i OfTypeEntry.no-entry

line-only : (function offset : ℕ) (es : List Line) → Only OfSourceLine (line_for function offset es)
unfolding line_for
line-only function offset es =
    only_then OfSourceLine _ (need (sorted es) unsorted_map) (only-need OfSourceLine (sorted es) unsorted_map OfSourceLine.unsorted)
    (λ u. only-present OfSourceLine no_line (best_of function offset none es) OfSourceLine.no-line)

array-only : (i : ℕ) (t : TypeTables) → Only OfArray (array_of i t)
array-only i t = only-indexed OfArray no_array t.arrays i OfArray.no-array

size-only : (i : ℕ) (t : TypeTables) → Only OfArraySize (array_size_of i t)
size-only i t =
    only_then OfArraySize byte_size (array_of i t) (only-indexed OfArraySize no_array t.arrays i OfArraySize.no-array)
    (λ a. only-cond OfArraySize (leb (a.elements * a.stride) 4294967295) (found (a.elements * a.stride)) (refused size_overflow) (λ e. tt) (λ e. OfArraySize.overflow))

function-only : (i : ℕ) (c : Code) → Only OfFunction (function_of i c)
function-only i c = only-indexed OfFunction no_function c.functions i OfFunction.no-function

bytecode-only : {T : Type 0} (keep : Keep T) (i : ℕ) (c : Code) → Only OfFunction (function_bytes_of keep i c)
bytecode-only keep i c =
    only_then OfFunction (bytecode_of keep c.bytecode) (function_of i c) (function-only i c)
    (λ f. only-cond OfFunction (leb (f.offset + f.size) (length c.bytecode)) (found _) (refused no_function) (λ e. tt) (λ e. OfFunction.no-function))

module _ {T : Type 0} where
  -- a number of a type below 6; the entry is another number, or a string
  number-only : (asked width i stored : ℕ) → asked ≤ 5 → (k : Kept T) → stored ≤ 7 → (z : Bool) → is_number stored ≡ z → KeptAs z k → Only (OfNumber asked i) (number_in asked width stored k)
  number-only asked width i stored a (kept.number b) l z e h =
      only-cond (OfNumber asked i) (eqb stored asked) (found _) (refused (invalid_constant_type stored)) (λ s. tt) (λ s. OfNumber.other-type stored l (eqb-false stored asked s))
  number-only asked width i stored a (kept.string t) l true e h = absurd h
  number-only asked width i stored a (kept.string t) l false e h = OfNumber.other-type stored l (λ s. let m = leb-false stored 5 e in omega arith)

  string-only : (i stored : ℕ) (k : Kept T) (z : Bool) → is_number stored ≡ z → KeptAs z k → Only (OfString i) (string_in stored k)
  string-only i stored (kept.number b) true e h = OfString.a-number stored (leb-true stored 5 e)
  string-only i stored (kept.number b) false e h = absurd h
  string-only i stored (kept.string t) z e h = tt

  width-only : (i : ℕ) (c : Constant T) → c.kind ≤ 7 → Only (OfString i) (char_width c)
  width-only i c l =
      only-cond (OfString i) (eqb c.kind 6) (found 1) (cond (eqb c.kind 7) (found 2) (refused (invalid_constant_type c.kind))) (λ e. tt) λ e.
      only-cond (OfString i) (eqb c.kind 7) (found 2) (refused (invalid_constant_type c.kind)) (λ d. tt) λ d.
      OfString.a-number c.kind (let m = eqb-false c.kind 6 e in let n = eqb-false c.kind 7 d in omega arith)

module _ (f : List ℕ) (r : Container) where
  tasks-then : {A : Type 0} (k : TaskTable → Got A) → ((t : TaskTable) → Only OfEntry (k t)) → Only (InSection OfTasks OfEntry) (answer.◌>>=◌ (tasks_in f r) k)
  tasks-then k h = section-then OfTasks OfEntry k (tasks_in f r) (at_only OfTasks OfEntry f r.header.directory.tasks task_table each-tasks) h

  types-then : {A : Type 0} (Out : Fault → Type 0) → Out no_array → (k : TypeTables → Got A) → ((t : TypeTables) → Only Out (k t)) → Only (InSection OfTypes Out) (answer.◌>>=◌ (types_in f r) k)
  types-then Out absent k h = section-then OfTypes Out k (types_in f r) (types-by-only Out absent f r.header.directory.types r.types) h

  -- the constant at an index, of which it is known that it reads
  constant-then : {A : Type 0} (Out : Fault → Type 0) (i : ℕ) → Out (invalid_constant_index i) → (k : Constant Place → Got A) → ((c : Constant Place) → Typed c → Only Out (k c))
      → Only (InSection OfConstants Out) (answer.◌>>=◌ (constants_in by_place f r) (λ l. answer.◌>>=◌ (constant_of i l) k))
  constant-then Out i out k h =
      let p = r.header.directory.constants in
      then-holds (All Typed) (InSection OfConstants Out) _ (constants_in by_place f r) (at_only OfConstants Out f p (constants (by_place p)) (each-constants (by_place p)))
      (holds_at (All Typed) f p (constants (by_place p)) (yields-constants (by_place p)))
      (λ l a. only-within Out (InSection OfConstants Out) (λ e o. InSection.lookup o) (answer.◌>>=◌ (constant_of i l) k) (indexed-holds Typed Out (invalid_constant_index i) k l i out a h))

  number-then-only : (asked width i : ℕ) → asked ≤ 5 → Only (InSection OfConstants (OfNumber asked i)) (answer.◌>>=◌ (constants_in by_place f r) (number_of asked width i))
  number-then-only asked width i a =
      constant-then (OfNumber asked i) i OfNumber.no_index (as_number asked width)
      (λ c t. number-only asked width i c.kind a c.kept t.below-8 (is_number c.kind) refl t.kept-as)

  signed-only : {A : Type 0} (asked width i : ℕ) → asked ≤ 5 → (k : ℕ → A)
      → Only (InSection OfConstants (OfNumber asked i)) (answer.◌>>=◌ (answer.◌>>=◌ (constants_in by_place f r) (number_of asked width i)) (λ n. found (k n)))
  signed-only asked width i a k =
      only_then (InSection OfConstants (OfNumber asked i)) (λ n. found (k n)) (answer.◌>>=◌ (constants_in by_place f r) (number_of asked width i)) (number-then-only asked width i a) (λ n. tt)

  code-then : {A : Type 0} (k : Code → Got A) → ((c : Code) → Only OfFunction (k c)) → Only (InSection OfCode OfFunction) (answer.◌>>=◌ (code_in f r) k)
  code-then k h =
      let n = r.header.runtime.functions in
      section-then OfCode OfFunction k (code_in f r) (at_only OfCode OfFunction f r.header.directory.code (code_of n) (each-code n)) h

  debug-then : {A : Type 0} (Out : Fault → Type 0) (k : Tables Place → Got A) → ((t : Tables Place) → Only Out (k t)) → Only (InDebug Out) (answer.◌>>=◌ (debug_in by_place f r) k)
  debug-then Out k h = only_then (InDebug Out) k (debug_in by_place f r) (debug-only Out by_place f r) (λ t. only-within Out (InDebug Out) (λ e o. InDebug.lookup o) (k t) (h t))

  debug-entry : {A : Type 0} (l : Tables Place → List A) (i : ℕ) → Only (InDebug OfEntry) (answer.◌>>=◌ (debug_in by_place f r) (λ t. indexed no_entry (l t) i))
  debug-entry l i = debug-then OfEntry (λ t. indexed no_entry (l t) i) (λ t. entry-only (l t) i)

  run_only : OnlyRun (run_answers f r)
  run_only =
      record {
        task = λ i. tasks-then (task_of i) (λ t. entry-only t.tasks i);
        program = λ i. tasks-then (program_of i) (λ t. entry-only t.programs i);
        fb_type = λ i.
            types-then OfTypeEntry OfTypeEntry.no-types (fb_type_of i) (λ t. only_then OfTypeEntry _ (indexed no_entry t.fb_types i) (type-entry-only t.fb_types i) (λ b. tt));
        field = λ i j.
            types-then OfTypeEntry OfTypeEntry.no-types (field_of i j) (λ t. only_then OfTypeEntry _ (indexed no_entry t.fb_types i) (type-entry-only t.fb_types i) (λ b. type-entry-only b.fields j));
        array = λ i. types-then OfArray OfArray.no-array (array_of i) (array-only i);
        array_size = λ i. types-then OfArraySize OfArraySize.no-array (array_size_of i) (size-only i);
        user_fb = λ i. types-then OfTypeEntry OfTypeEntry.no-types (user_fb_of i) (λ t. type-entry-only t.user_fbs i);
        constant = λ i.
            let p = r.header.directory.constants in
            section-then OfConstants (OfConstant i) (constant_of i) (constants_in by_place f r) (at_only OfConstants (OfConstant i) f p (constants (by_place p)) (each-constants (by_place p)))
            (λ l. only-indexed (OfConstant i) (invalid_constant_index i) l i OfConstant.no_index);
        i32 = λ i. signed-only 0 4 i (omega arith) _;
        u32 = λ i. number-then-only 1 4 i (omega arith);
        i64 = λ i. signed-only 2 8 i (omega arith) _;
        u64 = λ i. number-then-only 3 8 i (omega arith);
        f32 = λ i. number-then-only 4 4 i (omega arith);
        f64 = λ i. number-then-only 5 8 i (omega arith);
        string = λ i. constant-then (OfString i) i OfString.no_index as_string (λ c t. string-only i c.kind c.kept (is_number c.kind) refl t.kept-as);
        char_width = λ i. constant-then (OfString i) i OfString.no_index char_width (λ c t. width-only i c t.below-8);
        function = λ i. code-then (function_of i) (function-only i);
        bytecode = λ i. code-then (function_bytes_of (by_place r.header.directory.code) i) (bytecode-only (by_place r.header.directory.code) i);
      }

  debug-answers-only : OnlyDebug (debug_answers f r)
  debug-answers-only =
      record {
        source_line = λ function offset. debug-then OfSourceLine (λ t. line_for function offset t.lines) (λ t. line-only function offset t.lines);
        line = debug-entry (λ t. t.lines);
        variable = debug-entry (λ t. t.variables);
        function_name = debug-entry (λ t. t.functions);
        string_layout = debug-entry (λ t. t.strings);
        source_file = debug-entry (λ t. t.files);
        enumeration = λ i. debug-then OfEntry (enumeration_of i) (λ t. only_then OfEntry _ (indexed no_entry t.enumerations i) (entry-only t.enumerations i) (λ e. tt));
        enumeration_value = λ i j.
            debug-then OfEntry (enumeration_value_of i j) (λ t. only_then OfEntry _ (indexed no_entry t.enumerations i) (entry-only t.enumerations i) (λ e. entry-only e.values j));
      }

pub refusals : (hash : List ℕ → List ℕ) → Refusals hash
refusals hash =
    record { loading = loading hash; run = run_only; debug = debug-answers-only; loading-given = loading-given hash; run-given = run-given; debug-given = debug-given }
