-- Every refusal of a list is given by some file and record.
use Prim.Native.Nat.{ℕ, suc, ◌+◌, ◌≤◌, ◌<◌}
use mathlib.Core.Path.{◌≡◌, refl, ap, ◌∙◌}
use mathlib.Core.Bool.{Bool, true, false, cond}
use mathlib.Core.List.{List, [], ◌∷◌, ◌++◌}
use mathlib.Core.Option.{Option, none, some}
use native.Mathlib.Omega.{arith}
use lib.Dec.{leb, eqb, lit≤}
use lib.ListN.{length, replicate, length-append, length-replicate}
use lib.Seq.{take_all, drop_at}
use borrow.Author.Tests.{le-leb, lt-leb, eqb-true, ne_eqb}
use Rattle.reading.specs.Fault.{Fault}
use Rattle.reading.specs.Numbers.{le}
use Rattle.reading.specs.Reader.{fault, got, Reader, next, check, bytes, many}
use Rattle.reading.specs.Answer.{Got, refused, found, ◌>>=◌, indexed, item_of}
use Rattle.format.specs.Faults.{too_long, section_size_mismatch, content_hash_mismatch, invalid_task_type, invalid_field_type, invalid_array_stride, invalid_constant_type, invalid_constant_index, no_function, no_line, unsorted_map, no_array, size_overflow, no_entry}
use Rattle.format.specs.Parts.{limit, Place, cut, is_inside, Inside, same, Keep, by_bytes, by_place}
use Rattle.format.specs.Header.{header_of, directory_of, runtime_of}
use Rattle.format.specs.Integrity.{masked_header, section_in, hashed_in, hashed_string, content_fits}
use Rattle.format.specs.Tasks.{TaskTable, task, task_table}
use Rattle.format.specs.Types.{field, fb_type, stride_fits, array, TypeTables, type_tables}
use Rattle.format.specs.Constants.{is_number, Kept, Constant, kept_of, size_fits, constant, constants, number_in, as_number, as_string, char_width}
use Rattle.format.specs.Constants as kept
use Rattle.format.specs.Code.{Code, function, code_of}
use Rattle.format.specs.Debug.{Line, Tables, no_tables, debug_tables, rows_of, payload_of, tag_of, size_of, kind_of, line}
use Rattle.format.specs.Lines.{sorted, line_for}
use Rattle.format.specs.InForce.{none_in_force}
use Rattle.format.specs.Load.{read_in, has_types, types_found, load}
use Rattle.format.specs.Record.{TypeCounts, DebugCounts, Container}
use Rattle.format.specs.Lookups.{tasks_in, types_in, constants_in, code_in, or_no_debug, debug_in}
use Rattle.format.specs.Lookups.{task_of, program_of, fb_type_of, field_of, array_of, array_size_of, user_fb_of, constant_of, number_of, string_of, char_width_of, function_of, function_bytes_of, enumeration_of, enumeration_value_of}
use Rattle.format.specs.Examples.{pair, zero_hash, header, line_row, tiny_with, tiny, displaced}
use Rattle.format.specs.Refusals.{OfTasks, OfTypes, OfConstants, OfCode, OfLoading, InSection, InDebug, OfEntry, OfTypeEntry, OfArray, OfArraySize, OfConstant, OfNumber, OfString, OfFunction, OfSourceLine}
use Rattle.format.specs.Refusals.{Given, GivenRun, GivenDebug}
use Rattle.format.proofs.Answers.{first_of}
use Rattle.format.proofs.Order.{order}

-- Sections that are refused

abbrev task_section : ℕ → List ℕ
task_section kind = 1 ∷ 0 ∷ 0 ∷ 0 ∷ 0 ∷ 0 ∷ 0 ∷ 0 ∷ 0 ∷ 0 ∷ kind ∷ replicate 27 0

abbrev field_section : ℕ → List ℕ
field_section kind = 1 ∷ 0 ∷ 0 ∷ 0 ∷ 1 ∷ 0 ∷ kind ∷ 0 ∷ 0 ∷ 0 ∷ []

abbrev array_section : ℕ → ℕ → ℕ → List ℕ
array_section kind extra stride = 0 ∷ 0 ∷ 1 ∷ 0 ∷ kind ∷ 0 ∷ 0 ∷ 0 ∷ 0 ∷ 0 ∷ extra ∷ 0 ∷ stride ∷ 0 ∷ 0 ∷ 0 ∷ []

abbrev constant_section : ℕ → ℕ → List ℕ
constant_section kind size = 1 ∷ 0 ∷ kind ∷ 0 ∷ size ∷ 0 ∷ []

-- where a reader stops, so does what follows it
then-stops : {A B : Type 0} (e : Fault) (r : Reader A) (k : A → Reader B) (s : List ℕ) → r s ≡ fault e → next (r s) k ≡ fault e
then-stops e r k s h = rw h

many-stops : {A : Type 0} (e : Fault) (n : ℕ) (r : Reader A) (s : List ℕ) → r s ≡ fault e → many (suc n) r s ≡ fault e
many-stops e n r s h = rw h

many-one : {A : Type 0} (r : Reader A) (s : List ℕ) (a : A) → r s ≡ got a [] → many 1 r s ≡ got (a ∷ []) []
many-one r s a h = rw h

module _ {B : Type 0} (e : Fault) (t : Bool) (k : Unit {0} → Reader B) (s : List ℕ) where
  check-stops : t ≡ false → next (check t e s) k ≡ fault e
  check-stops h = rw h

  check-passes : t ≡ true → next (check t e s) k ≡ k tt s
  check-passes h = rw h

got-stops : {A B : Type 0} (e : Fault) (x : Got A) (k : A → Got B) → x ≡ refused e → (x >>= k) ≡ refused e
got-stops e x k h = rw h

-- a number whose other bytes are zero is read as the sum with 0
plus-zero : (n : ℕ) → n + 0 ≡ n
plus-zero n = omega arith

task-stops : (kind : ℕ) → 2 < kind → task (0 ∷ 0 ∷ 0 ∷ 0 ∷ kind ∷ replicate 27 0) ≡ fault (invalid_task_type kind)
unfolding task bytes le
task-stops kind h = check-stops (invalid_task_type (kind + 0)) (leb (kind + 0) 2) _ [] (lt-leb (kind + 0) 2 (omega arith)) ∙ ap (λ n. fault (invalid_task_type n)) (plus-zero kind)

task-type : (kind : ℕ) → 2 < kind → item_of (task_table (task_section kind)) ≡ refused (invalid_task_type kind)
unfolding task_table bytes le
task-type kind h =
    let e = invalid_task_type kind in
    let s : List ℕ = 0 ∷ 0 ∷ 0 ∷ 0 ∷ kind ∷ replicate 27 0 in
    ap item_of (then-stops e (many 1 task) _ s (many-stops e 0 task s (task-stops kind h)))

field-stops : (kind : ℕ) → 10 < kind → field (kind ∷ 0 ∷ 0 ∷ 0 ∷ []) ≡ fault (invalid_field_type kind)
unfolding field bytes le
field-stops kind h = check-stops (invalid_field_type (kind + 0)) (leb (kind + 0) 10) _ [] (lt-leb (kind + 0) 10 (omega arith)) ∙ ap (λ n. fault (invalid_field_type n)) (plus-zero kind)

fb-type-stops : (kind : ℕ) → 10 < kind → fb_type (0 ∷ 0 ∷ 1 ∷ 0 ∷ kind ∷ 0 ∷ 0 ∷ 0 ∷ []) ≡ fault (invalid_field_type kind)
unfolding fb_type bytes le
fb-type-stops kind h =
    let e = invalid_field_type kind in
    let s : List ℕ = kind ∷ 0 ∷ 0 ∷ 0 ∷ [] in
    then-stops e (many 1 field) _ s (many-stops e 0 field s (field-stops kind h))

field-type : (kind : ℕ) → 10 < kind → item_of (type_tables (field_section kind)) ≡ refused (invalid_field_type kind)
unfolding type_tables bytes le
field-type kind h =
    let e = invalid_field_type kind in
    let s : List ℕ = 0 ∷ 0 ∷ 1 ∷ 0 ∷ kind ∷ 0 ∷ 0 ∷ 0 ∷ [] in
    ap item_of (then-stops e (many 1 fb_type) _ s (many-stops e 0 fb_type s (fb-type-stops kind h)))

array-stops : (kind extra stride : ℕ) → stride_fits kind extra stride ≡ false
    → array (kind ∷ 0 ∷ 0 ∷ 0 ∷ 0 ∷ 0 ∷ extra ∷ 0 ∷ stride ∷ 0 ∷ 0 ∷ 0 ∷ []) ≡ fault (invalid_array_stride kind stride)
unfolding array bytes le
array-stops kind extra stride h =
    let bad : stride_fits (kind + 0) (extra + 0) (stride + 0) ≡ false = rw (plus-zero kind, plus-zero extra, plus-zero stride) h in
    check-stops (invalid_array_stride (kind + 0) (stride + 0)) (stride_fits (kind + 0) (extra + 0) (stride + 0)) _ [] bad
    ∙ rw (plus-zero kind, plus-zero stride)

stride-bad : (kind extra stride : ℕ) → stride_fits kind extra stride ≡ false → item_of (type_tables (array_section kind extra stride)) ≡ refused (invalid_array_stride kind stride)
unfolding type_tables bytes le
stride-bad kind extra stride h =
    let e = invalid_array_stride kind stride in
    let s : List ℕ = kind ∷ 0 ∷ 0 ∷ 0 ∷ 0 ∷ 0 ∷ extra ∷ 0 ∷ stride ∷ 0 ∷ 0 ∷ 0 ∷ [] in
    ap item_of (then-stops e (many 1 array) _ s (many-stops e 0 array s (array-stops kind extra stride h)))

module _ {T : Type 0} (keep : Keep T) where
  type-stops : (kind : ℕ) → 7 < kind → constant keep (kind ∷ 0 ∷ 0 ∷ 0 ∷ []) ≡ fault (invalid_constant_type kind)
  unfolding constant bytes le
  type-stops kind h =
      check-stops (invalid_constant_type (kind + 0)) (leb (kind + 0) 7) _ [] (lt-leb (kind + 0) 7 (omega arith)) ∙ ap (λ n. fault (invalid_constant_type n)) (plus-zero kind)

  size-stops : (kind size : ℕ) → kind ≤ 5 → 8 < size → constant keep (kind ∷ 0 ∷ size ∷ 0 ∷ []) ≡ fault (invalid_constant_type kind)
  unfolding constant bytes le
  size-stops kind size k h =
      let e = invalid_constant_type (kind + 0) in
      let large : size_fits (kind + 0) (size + 0) ≡ false = rw (le-leb (kind + 0) 5 (omega arith)) (lt-leb (size + 0) 8 (omega arith)) in
      check-passes e (leb (kind + 0) 7) _ [] (le-leb (kind + 0) 7 (omega arith)) ∙ check-stops e (size_fits (kind + 0) (size + 0)) _ [] large
      ∙ ap (λ n. fault (invalid_constant_type n)) (plus-zero kind)

  constant-type : (kind : ℕ) → 7 < kind → item_of (constants keep (constant_section kind 0)) ≡ refused (invalid_constant_type kind)
  unfolding constants bytes le
  constant-type kind h = ap item_of (many-stops (invalid_constant_type kind) 0 (constant keep) (kind ∷ 0 ∷ 0 ∷ 0 ∷ []) (type-stops kind h))

  constant-size : (kind size : ℕ) → kind ≤ 5 → 8 < size → item_of (constants keep (constant_section kind size)) ≡ refused (invalid_constant_type kind)
  unfolding constants bytes le
  constant-size kind size k h = ap item_of (many-stops (invalid_constant_type kind) 0 (constant keep) (kind ∷ 0 ∷ size ∷ 0 ∷ []) (size-stops kind size k h))

  -- a constant that has no bytes
  size-fits : (kind : ℕ) → size_fits kind 0 ≡ true
  size-fits kind = go (is_number kind)
    where
      go : (z : Bool) → cond z true true ≡ true
      go true = refl
      go false = refl

  abbrev empty_constant : ℕ → Constant T
  empty_constant kind = record { kind = kind; kept = kept_of keep kind [] 0 }

  constant-reads : (kind : ℕ) → kind ≤ 7 → constant keep (kind ∷ 0 ∷ 0 ∷ 0 ∷ []) ≡ got (empty_constant kind) []
  unfolding constant bytes le
  constant-reads kind l =
      let e = invalid_constant_type (kind + 0) in
      check-passes e (leb (kind + 0) 7) _ [] (le-leb (kind + 0) 7 (omega arith)) ∙ check-passes e (size_fits (kind + 0) 0) _ [] (size-fits (kind + 0))
      ∙ ap (λ n. got (empty_constant n) []) (plus-zero kind)

  constant-one : (kind : ℕ) → kind ≤ 7 → item_of (constants keep (constant_section kind 0)) ≡ found (empty_constant kind ∷ [])
  unfolding constants bytes le
  constant-one kind l = ap item_of (many-one (constant keep) (kind ∷ 0 ∷ 0 ∷ 0 ∷ []) (empty_constant kind) (constant-reads kind l))

-- A file that holds a section behind 256 bytes, and a record by which every section is there

abbrev holding : List ℕ → List ℕ
holding s = replicate 256 0 ++ s

abbrev placed : List ℕ → Place
placed s = record { offset = 256; size = length s }

abbrev record_with : Option TypeCounts → Option DebugCounts → Place → ℕ → Container
record_with types debug p functions =
    record {
      header = record {
        magic = 0;
        version = 0;
        profile = 0;
        flags = 0;
        content_hash = [];
        reserved_hash = [];
        debug_hash = [];
        layout_hash = [];
        directory = record { signature = p; debug_signature = p; types = p; tasks = p; constants = p; code = p; debug = p };
        runtime = record {
          max_stack_depth = 0;
          max_call_depth = 0;
          variables = 0;
          data_region_bytes = 0;
          temp_buffers = 0;
          max_temp_buffer_bytes = 0;
          functions = functions;
          fb_types = 0;
          input_image_bytes = 0;
          output_image_bytes = 0;
          memory_image_bytes = 0;
        };
        reserved = [];
      };
      tasks = record { shared_globals = 0; tasks = 0; programs = 0 };
      types = types;
      constants = 0;
      debug = debug;
      in_force = none_in_force;
    }

abbrev some_types : TypeCounts
some_types = record { fb_types = 0; arrays = 0; user_fbs = 0 }

abbrev some_debug : DebugCounts
some_debug = record { lines = 0; variables = 0; functions = 0; strings = 0; files = 0; enumerations = 0 }

abbrev record_at : Place → ℕ → Container
record_at = record_with (some some_types) (some some_debug)

-- one that has neither types nor debug
abbrev bare : Container
bare = record_with none none (placed []) 0

-- over the limit
abbrev long : List ℕ
long = replicate (suc limit) 0

-- for any number: the limit's zeros are not computed
zeros-more : (n : ℕ) → n < length {A = ℕ} (replicate (suc n) 0)
zeros-more n = rw (length-replicate {A = ℕ} (suc n) 0) (omega arith)

long-is : limit < length long
long-is = zeros-more limit

module _ (s : List ℕ) (n : ℕ) (few : length s ≤ 100) where
  within-limit : length (holding s) ≤ limit
  within-limit = simp (length-append, length-replicate) (omega arith)

  inside : Inside (holding s) (placed s)
  inside = record { behind = omega arith; within = simp (length-append, length-replicate) (omega arith) }

  cut-is : cut (holding s) (placed s) ≡ s
  cut-is = rw (drop_at (replicate 256 0) s 256 (length-replicate {A = ℕ} 256 0)) (take_all (length s) s (omega arith))

  tasks-read : tasks_in (holding s) (record_at (placed s) n) ≡ item_of (task_table s)
  tasks-read = (order.section-then (holding s) (record_at (placed s) n) within-limit).tasks inside ∙ ap (λ x. item_of (task_table x)) cut-is

  types-read : types_in (holding s) (record_at (placed s) n) ≡ item_of (type_tables s)
  types-read = (order.section-then (holding s) (record_at (placed s) n) within-limit).types some_types refl inside ∙ ap (λ x. item_of (type_tables x)) cut-is

  constants-read : constants_in by_place (holding s) (record_at (placed s) n) ≡ item_of (constants (by_place (placed s)) s)
  constants-read = (order.section-then (holding s) (record_at (placed s) n) within-limit).constants inside ∙ ap (λ x. item_of (constants (by_place (placed s)) x)) cut-is

  code_read : code_in (holding s) (record_at (placed s) n) ≡ item_of (code_of n s)
  code_read = (order.section-then (holding s) (record_at (placed s) n) within-limit).code inside ∙ ap (λ x. item_of (code_of n x)) cut-is

  debug-read : debug_in by_place (holding s) (record_at (placed s) n) ≡ or_no_debug (item_of (debug_tables (by_place (placed s)) s))
  debug-read = (order.section-then (holding s) (record_at (placed s) n) within-limit).debug some_debug refl inside ∙ ap (λ x. or_no_debug (item_of (debug_tables (by_place (placed s)) x))) cut-is

-- A lookup is refused for some file and record

abbrev Refuses : {A : Type 0} → (List ℕ → Container → Got A) → Fault → Type 0
Refuses look e = (f : List ℕ) × (r : Container) × (look f r ≡ refused e)

-- by what it reads first
then-refuses : {A B : Type 0} (look : List ℕ → Container → Got A) (k : Container → A → Got B) (e : Fault) → Refuses look e → Refuses (λ f r. look f r >>= k r) e
then-refuses look k e x = (x.0, x.1, rw x.2)

-- by what it makes of a section that reads
from-section : {A B : Type 0} (look : List ℕ → Container → Got A) (k : Container → A → Got B) (s : List ℕ) (n : ℕ) (x : Got A) (e : Fault)
    → look (holding s) (record_at (placed s) n) ≡ x → (x >>= k (record_at (placed s) n)) ≡ refused e → Refuses (λ f r. look f r >>= k r) e
from-section look k s n x e h g = (holding s, record_at (placed s) n, rw h g)

-- a section before byte 256
abbrev at_start : Container
at_start = record_at (record { offset = 0; size = 0 }) 0

not-inside : Inside [] (record { offset = 0; size = 0 }) → ⊥
not-inside h = omega (arith, h.behind)

-- what every section of a run refuses
record Section {A : Type 0} (Own : Fault → Type 0) (look : List ℕ → Container → Got A) : Type 0 where
  too-long : look long at_start ≡ refused too_long
  place : look [] at_start ≡ refused section_size_mismatch
  own : (e : Fault) → Own e → Refuses look e

-- a lookup refuses that, and what it adds
module _ {A B : Type 0} (Own Out : Fault → Type 0) (look : List ℕ → Container → Got A) (k : Container → A → Got B) where
  in-section : Section Own look → ((e : Fault) → Out e → Refuses (λ f r. look f r >>= k r) e) → Given (InSection Own Out) (λ f r. look f r >>= k r)
  in-section s out e InSection.too-long = (long, at_start, rw s.too-long)
  in-section s out e InSection.place = ([], at_start, rw s.place)
  in-section s out e (InSection.section o) = then-refuses look k e (s.own e o)
  in-section s out e (InSection.lookup o) = out e o

-- Tasks

tasks-own : (e : Fault) → OfTasks e → Refuses tasks_in e
unfolding task_table bytes
tasks-own e OfTasks.short = (holding [], record_at (placed []) 0, tasks-read [] 0 (lit≤ tt))
tasks-own e (OfTasks.task-type kind h) = let s = task_section kind in (holding s, record_at (placed s) 0, tasks-read s 0 (lit≤ tt) ∙ task-type kind h)

tasks-section : Section OfTasks tasks_in
tasks-section = record { too-long = (order.limit-first long at_start long-is).tasks; place = (order.place-then [] at_start (lit≤ tt)).tasks not-inside; own = tasks-own }

abbrev no_tasks : TaskTable
no_tasks = record { shared_globals = 0; tasks = []; programs = [] }

tasks-none : tasks_in (holding (replicate 6 0)) (record_at (placed (replicate 6 0)) 0) ≡ found no_tasks
unfolding task_table bytes le
tasks-none = tasks-read (replicate 6 0) 0 (lit≤ tt)

tasks-given : {B : Type 0} (k : TaskTable → Got B) → k no_tasks ≡ refused no_entry → Given (InSection OfTasks OfEntry) (λ f r. tasks_in f r >>= k)
tasks-given k h = in-section OfTasks OfEntry tasks_in (λ r. k) tasks-section out
  where
    out : (e : Fault) → OfEntry e → Refuses (λ f r. tasks_in f r >>= k) e
    out e OfEntry.no-entry = from-section tasks_in (λ r. k) (replicate 6 0) 0 (found no_tasks) no_entry tasks-none h

-- Types

types-own : (e : Fault) → OfTypes e → Refuses types_in e
unfolding type_tables bytes
types-own e OfTypes.short = (holding [], record_at (placed []) 0, types-read [] 0 (lit≤ tt))
types-own e (OfTypes.field-type kind h) = let s = field_section kind in (holding s, record_at (placed s) 0, types-read s 0 (lit≤ tt) ∙ field-type kind h)
types-own e (OfTypes.stride kind extra stride h) =
    let s = array_section kind extra stride in
    (holding s, record_at (placed s) 0, types-read s 0 (lit≤ tt) ∙ stride-bad kind extra stride h)

types-section : Section OfTypes types_in
types-section =
    record { too-long = (order.limit-first long at_start long-is).types; place = (order.place-then [] at_start (lit≤ tt)).types some_types refl not-inside; own = types-own }

abbrev no_types : TypeTables
no_types = record { fb_types = []; arrays = []; user_fbs = [] }

types-none : types_in (holding (replicate 4 0)) (record_at (placed (replicate 4 0)) 0) ≡ found no_types
unfolding type_tables bytes le
types-none = types-read (replicate 4 0) 0 (lit≤ tt)

module _ {B : Type 0} (k : TypeTables → Got B) where
  types-absent : Refuses (λ f r. types_in f r >>= k) no_array
  types-absent = ([], bare, refl)

  type-entry-given : k no_types ≡ refused no_entry → Given (InSection OfTypes OfTypeEntry) (λ f r. types_in f r >>= k)
  type-entry-given h = in-section OfTypes OfTypeEntry types_in (λ r. k) types-section out
    where
      out : (e : Fault) → OfTypeEntry e → Refuses (λ f r. types_in f r >>= k) e
      out e OfTypeEntry.no-types = types-absent
      out e OfTypeEntry.no-entry = from-section types_in (λ r. k) (replicate 4 0) 0 (found no_types) no_entry types-none h

array-out : (e : Fault) → OfArray e → Refuses (λ f r. types_in f r >>= array_of 0) e
array-out e OfArray.no-array = types-absent (array_of 0)

-- 0x20000000 elements of 8 bytes
abbrev huge_array : List ℕ
huge_array = 0 ∷ 0 ∷ 1 ∷ 0 ∷ 0 ∷ 0 ∷ 0 ∷ 0 ∷ 0 ∷ 0x20 ∷ 0 ∷ 0 ∷ 8 ∷ 0 ∷ 0 ∷ 0 ∷ []

size-out : (e : Fault) → OfArraySize e → Refuses (λ f r. types_in f r >>= array_size_of 0) e
unfolding type_tables array bytes le
size-out e OfArraySize.no-array = types-absent (array_size_of 0)
size-out e OfArraySize.overflow = from-section types_in (λ r. array_size_of 0) huge_array 0 (item_of (type_tables huge_array)) size_overflow (types-read huge_array 0 (lit≤ tt)) refl

-- Constants

abbrev pool_in : List ℕ → Container → Got (List (Constant Place))
pool_in = constants_in by_place

constants-own : (e : Fault) → OfConstants e → Refuses pool_in e
unfolding constants bytes
constants-own e OfConstants.short = (holding [], record_at (placed []) 0, constants-read [] 0 (lit≤ tt))
constants-own e (OfConstants.constant-type kind h) =
    let s = constant_section kind 0 in
    (holding s, record_at (placed s) 0, constants-read s 0 (lit≤ tt) ∙ constant-type (by_place (placed s)) kind h)
constants-own e (OfConstants.constant-size kind size k h) =
    let s = constant_section kind size in
    (holding s, record_at (placed s) 0, constants-read s 0 (lit≤ tt) ∙ constant-size (by_place (placed s)) kind size k h)

constants-section : Section OfConstants pool_in
constants-section =
    record { too-long = (order.limit-first long at_start long-is).constants; place = (order.place-then [] at_start (lit≤ tt)).constants not-inside; own = constants-own }

-- the empty pool, and a pool of one constant that has no bytes
constants-none : pool_in (holding (replicate 2 0)) (record_at (placed (replicate 2 0)) 0) ≡ found []
unfolding constants bytes le
constants-none = constants-read (replicate 2 0) 0 (lit≤ tt)

abbrev one_constant : ℕ → Constant Place
one_constant kind = empty_constant (by_place (placed (constant_section kind 0))) kind

constants-one : (kind : ℕ) → kind ≤ 7 → pool_in (holding (constant_section kind 0)) (record_at (placed (constant_section kind 0)) 0) ≡ found (one_constant kind ∷ [])
constants-one kind l = let s = constant_section kind 0 in constants-read s 0 (lit≤ tt) ∙ constant-one (by_place (placed s)) kind l

module _ {B : Type 0} (k : Constant Place → Got B) where
  abbrev pick : List (Constant Place) → Got B
  pick cs = constant_of 0 cs >>= k

  index-given : Refuses (λ f r. pool_in f r >>= pick) (invalid_constant_index 0)
  index-given = from-section pool_in (λ r. pick) (replicate 2 0) 0 (found []) (invalid_constant_index 0) constants-none refl

  kind-given : (kind : ℕ) → kind ≤ 7 → k (one_constant kind) ≡ refused (invalid_constant_type kind) → Refuses (λ f r. pool_in f r >>= pick) (invalid_constant_type kind)
  kind-given kind l h = from-section pool_in (λ r. pick) (constant_section kind 0) 0 (found (one_constant kind ∷ [])) (invalid_constant_type kind) (constants-one kind l) h

constant-out : (e : Fault) → OfConstant 0 e → Refuses (λ f r. pool_in f r >>= constant_of 0) e
constant-out e OfConstant.no_index = from-section pool_in (λ r. constant_of 0) (replicate 2 0) 0 (found []) (invalid_constant_index 0) constants-none refl

other-number : (asked width kind : ℕ) → (kind ≡ asked → ⊥) → (x : Kept Place) → number_in asked width kind x ≡ refused (invalid_constant_type kind)
other-number asked width kind h (kept.number b) = rw (ne_eqb kind asked h)
other-number asked width kind h (kept.string t) = refl

number-given : (asked width : ℕ) → Given (InSection OfConstants (OfNumber asked 0)) (λ f r. pool_in f r >>= number_of asked width 0)
number-given asked width = in-section OfConstants (OfNumber asked 0) pool_in (λ r. number_of asked width 0) constants-section out
  where
    out : (e : Fault) → OfNumber asked 0 e → Refuses (λ f r. pool_in f r >>= number_of asked width 0) e
    out e OfNumber.no_index = index-given (as_number asked width)
    out e (OfNumber.other-type kind l h) = kind-given (as_number asked width) kind l (other-number asked width kind h (one_constant kind).kept)

-- signed, from the same number
signed-given : {B : Type 0} (asked width : ℕ) (g : ℕ → B) → Given (InSection OfConstants (OfNumber asked 0)) (λ f r. pool_in f r >>= number_of asked width 0 >>= λ n. found (g n))
signed-given asked width g e o = then-refuses (λ f r. pool_in f r >>= number_of asked width 0) (λ r n. found (g n)) e (number-given asked width e o)

string-out : (e : Fault) → OfString 0 e → Refuses (λ f r. pool_in f r >>= string_of 0) e
unfolding kept_of
string-out e OfString.no_index = index-given as_string
string-out e (OfString.a-number kind l) = kind-given as_string kind (omega arith) (rw (le-leb kind 5 l))

width-out : (e : Fault) → OfString 0 e → Refuses (λ f r. pool_in f r >>= char_width_of 0) e
width-out e OfString.no_index = index-given char_width
width-out e (OfString.a-number kind l) = kind-given char_width kind (omega arith) (rw (ne_eqb kind 6 (λ d. omega arith), ne_eqb kind 7 (λ d. omega arith)))

-- Code

code-own : (e : Fault) → OfCode e → Refuses code_in e
unfolding code_of function bytes
code-own e OfCode.short = (holding [], record_at (placed []) 1, code_read [] 1 (lit≤ tt))

code-section : Section OfCode code_in
code-section = record { too-long = (order.limit-first long at_start long-is).code; place = (order.place-then [] at_start (lit≤ tt)).code not-inside; own = code-own }

code-none : code_in (holding []) (record_at (placed []) 0) ≡ found (record { functions = []; bytecode = [] })
unfolding code_of
code-none = code_read [] 0 (lit≤ tt)

code-given : {B : Type 0} (k : Container → Code → Got B) → ((r : Container) → k r (record { functions = []; bytecode = [] }) ≡ refused no_function) → Given (InSection OfCode OfFunction) (λ f r. code_in f r >>= k r)
code-given k h = in-section OfCode OfFunction code_in k code-section out
  where
    out : (e : Fault) → OfFunction e → Refuses (λ f r. code_in f r >>= k r) e
    out e OfFunction.no-function = from-section code_in k [] 0 (found (record { functions = []; bytecode = [] })) no_function code-none (h (record_at (placed []) 0))

-- Debug

abbrev tables_in : List ℕ → Container → Got (Tables Place)
tables_in = debug_in by_place

in-debug : {B : Type 0} (Out : Fault → Type 0) (k : Tables Place → Got B) → ((e : Fault) → Out e → Refuses (λ f r. tables_in f r >>= k) e) → Given (InDebug Out) (λ f r. tables_in f r >>= k)
in-debug Out k out e InDebug.too-long = (long, at_start, rw (order.limit-first long at_start long-is).debug)
in-debug Out k out e InDebug.no-debug = ([], bare, rw ((order.absence-then [] bare (lit≤ tt)).debug refl))
in-debug Out k out e (InDebug.lookup o) = out e o

debug-none : tables_in (holding (replicate 2 0)) (record_at (placed (replicate 2 0)) 0) ≡ found no_tables
unfolding debug_tables rows_of bytes le
debug-none = debug-read (replicate 2 0) 0 (lit≤ tt)

debug-entry-given : {B : Type 0} (k : Tables Place → Got B) → k no_tables ≡ refused no_entry → Given (InDebug OfEntry) (λ f r. tables_in f r >>= k)
debug-entry-given k h = in-debug OfEntry k out
  where
    out : (e : Fault) → OfEntry e → Refuses (λ f r. tables_in f r >>= k) e
    out e OfEntry.no-entry = from-section tables_in (λ r. k) (replicate 2 0) 0 (found no_tables) no_entry debug-none h

-- two lines, at offsets 3 and 2
abbrev falling : List ℕ
falling = 1 ∷ 0 ∷ line_row 0 ++ 2 ∷ 0 ∷ 0 ∷ 0 ∷ 3 ∷ 0 ∷ replicate 6 0 ++ 0 ∷ 0 ∷ 2 ∷ 0 ∷ replicate 6 0

abbrev first_line : Tables Place → Got Line
first_line t = line_for 0 0 t.lines

line-out : (e : Fault) → OfSourceLine e → Refuses (λ f r. tables_in f r >>= first_line) e
unfolding debug_tables rows_of payload_of tag_of size_of kind_of line bytes le line_for sorted
line-out e OfSourceLine.unsorted = from-section tables_in (λ r. first_line) falling 0 _ unsorted_map (debug-read falling 0 (lit≤ tt)) refl
line-out e OfSourceLine.no-line = from-section tables_in (λ r. first_line) (replicate 2 0) 0 (found no_tables) no_line debug-none refl

-- All lookups

pub run-given : GivenRun
run-given =
    record {
      task = tasks-given (task_of 0) refl;
      program = tasks-given (program_of 0) refl;
      fb_type = type-entry-given (fb_type_of 0) refl;
      field = type-entry-given (field_of 0 0) refl;
      array = in-section OfTypes OfArray types_in (λ r. array_of 0) types-section array-out;
      array_size = in-section OfTypes OfArraySize types_in (λ r. array_size_of 0) types-section size-out;
      user_fb = type-entry-given (user_fb_of 0) refl;
      constant = in-section OfConstants (OfConstant 0) pool_in (λ r. constant_of 0) constants-section constant-out;
      i32 = signed-given 0 4 _;
      u32 = number-given 1 4;
      i64 = signed-given 2 8 _;
      u64 = number-given 3 8;
      f32 = number-given 4 4;
      f64 = number-given 5 8;
      string = in-section OfConstants (OfString 0) pool_in (λ r. string_of 0) constants-section string-out;
      char_width = in-section OfConstants (OfString 0) pool_in (λ r. char_width_of 0) constants-section width-out;
      function = code-given (λ r. function_of 0) (λ r. refl);
      bytecode = code-given (λ r. function_bytes_of (by_place r.header.directory.code) 0) (λ r. refl);
    }

pub debug-given : GivenDebug
debug-given =
    record {
      source_line = in-debug OfSourceLine first_line line-out;
      line = debug-entry-given (λ t. indexed no_entry t.lines 0) refl;
      variable = debug-entry-given (λ t. indexed no_entry t.variables 0) refl;
      function_name = debug-entry-given (λ t. indexed no_entry t.functions 0) refl;
      string_layout = debug-entry-given (λ t. indexed no_entry t.strings 0) refl;
      source_file = debug-entry-given (λ t. indexed no_entry t.files 0) refl;
      enumeration = debug-entry-given (enumeration_of 0) refl;
      enumeration_value = debug-entry-given (enumeration_value_of 0 0) refl;
    }

-- Loading: unhashed files without debug, one section behind the other

abbrev file_of : List ℕ → List ℕ → List ℕ → ℕ → List ℕ
file_of tasks types constants functions =
    let a = 256 + length tasks in
    let b = a + length types in
    let c = b + length constants in
    header 4 zero_hash zero_hash (pair a (length types) ++ pair 256 (length tasks) ++ pair b (length constants) ++ pair c 0 ++ pair 0 0) functions
    ++ tasks ++ types ++ constants

abbrev magic_only : List ℕ
magic_only = 0x43 ∷ 0x4C ∷ 0x50 ∷ 0x49 ∷ replicate 252 0

module _ (hash : List ℕ → List ℕ) where
  abbrev Turned : Fault → Type 0
  Turned e = (f : List ℕ) × (load hash f ≡ refused e)

  load-long : (f : List ℕ) → limit < length f → load hash f ≡ refused too_long
  unfolding load
  load-long f h = rw (lt-leb (length f) limit h)

  -- what the content hash of a small file runs over; whatever its hash is, 32 ones or 32 twos differ from it
  abbrev content : List ℕ
  content = masked_header tiny ++ replicate 8 0

  not-twos : (l : List ℕ) → same l (replicate 32 1) ≡ true → same l (replicate 32 2) ≡ false
  not-twos [] e = refl
  not-twos (a ∷ l) e = let one = eqb-true a 1 (first_of (eqb a 1) (same l (replicate 31 1)) e) in rw (ne_eqb a 2 (λ two. omega arith))

  load-hashed : (z : Bool) → same (hash content) (replicate 32 1) ≡ z → Turned content_hash_mismatch
  unfolding load header_of runtime_of directory_of le bytes content_fits hashed_string hashed_in masked_header section_in is_inside
  load-hashed false e = (tiny_with (replicate 32 1) 264, rw e)
  load-hashed true e = (tiny_with (replicate 32 2) 264, rw (not-twos (hash content) e))

  load-tasks : {e : Fault} → OfTasks e → Turned e
  unfolding load header_of runtime_of directory_of le bytes content_fits read_in section_in is_inside task_table
  load-tasks OfTasks.short = (file_of [] [] [] 0, refl)
  load-tasks (OfTasks.task-type kind h) =
      let s = task_section kind in
      (file_of s [] [] 0, got-stops (invalid_task_type kind) (item_of (task_table s)) _ (task-type kind h))

  -- where types stop
  types-stop : (e : Fault) (s : List ℕ) → item_of (type_tables s) ≡ refused e → (item_of (type_tables s) >>= λ t. found (some t)) ≡ refused e
  types-stop e s h = got-stops e (item_of (type_tables s)) _ h

  load-types : {e : Fault} → OfTypes e → Turned e
  unfolding load header_of runtime_of directory_of le bytes content_fits read_in section_in is_inside task_table types_found has_types type_tables
  load-types OfTypes.short = (file_of (replicate 6 0) (0 ∷ []) [] 0, refl)
  load-types (OfTypes.field-type kind h) =
      let s = field_section kind in
      let e = invalid_field_type kind in
      (file_of (replicate 6 0) s [] 0, got-stops e (item_of (type_tables s) >>= λ t. found (some t)) _ (types-stop e s (field-type kind h)))
  load-types (OfTypes.stride kind extra stride h) =
      let s = array_section kind extra stride in
      let e = invalid_array_stride kind stride in
      (file_of (replicate 6 0) s [] 0, got-stops e (item_of (type_tables s) >>= λ t. found (some t)) _ (types-stop e s (stride-bad kind extra stride h)))

  load-constants : {e : Fault} → OfConstants e → Turned e
  unfolding load header_of runtime_of directory_of le bytes content_fits read_in section_in is_inside task_table types_found has_types constants
  load-constants OfConstants.short = (file_of (replicate 6 0) [] [] 0, refl)
  load-constants (OfConstants.constant-type kind h) =
      let s = constant_section kind 0 in
      (file_of (replicate 6 0) [] s 0, got-stops (invalid_constant_type kind) (item_of (constants by_bytes s)) _ (constant-type by_bytes kind h))
  load-constants (OfConstants.constant-size kind size k h) =
      let s = constant_section kind size in
      (file_of (replicate 6 0) [] s 0, got-stops (invalid_constant_type kind) (item_of (constants by_bytes s)) _ (constant-size by_bytes kind size k h))

  load_code : {e : Fault} → OfCode e → Turned e
  unfolding load header_of runtime_of directory_of le bytes content_fits read_in section_in is_inside task_table types_found has_types constants code_of function
  load_code OfCode.short = (file_of (replicate 6 0) [] (replicate 2 0) 1, refl)

  pub loading-given : (e : Fault) → OfLoading e → Turned e
  unfolding load header_of runtime_of directory_of le bytes content_fits read_in section_in is_inside task_table types_found has_types constants code_of
  loading-given e OfLoading.too-long = (long, load-long long long-is)
  loading-given e OfLoading.short-header = ([], refl)
  loading-given e OfLoading.magic = (replicate 256 0, refl)
  loading-given e OfLoading.version = (magic_only, refl)
  loading-given e OfLoading.place = (displaced, refl)
  loading-given e OfLoading.hash-unequal = load-hashed (same (hash content) (replicate 32 1)) refl
  loading-given e (OfLoading.tasks o) = load-tasks o
  loading-given e (OfLoading.types o) = load-types o
  loading-given e (OfLoading.constants o) = load-constants o
  loading-given e (OfLoading.code o) = load_code o
