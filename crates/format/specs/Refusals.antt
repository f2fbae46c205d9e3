-- Demand 1 of the definitions: a file loads or is refused by document 01's table, and so does every lookup on any file, record and index.
-- Loading and each kind of lookup has a list of refusals. `Only` says that it gives no other one, `Given` that some file and record give each of
-- them; a file is a list of numbers here, so of a value above 255 some list that is not of bytes. `Order` says which refusal comes first.
--
-- To add a refusal: define it in `Faults`. A new function gets a list of its own, made of those below, and its own claim beside its
-- definition. A function that can now give one more gets a constructor in its list. The other lists and claims stay as they are.
use Rattle.std.specs.Prelude.{ℕ, ◌<◌, ◌≤◌, false, ◌≡◌, List}
use Rattle.reading.specs.Fault.{Fault, short_input}
use Rattle.reading.specs.Answer.{Got, refused, found}
use Rattle.format.specs.Faults.{invalid_magic, unsupported_version, section_size_mismatch, content_hash_mismatch}
use Rattle.format.specs.Faults.{invalid_task_type, invalid_field_type, invalid_array_stride, invalid_constant_type, too_long, invalid_constant_index}
use Rattle.format.specs.Faults.{no_function, no_line, unsorted_map, no_debug, no_array, size_overflow, no_entry}
use Rattle.format.specs.Types.{stride_fits}
use Rattle.format.specs.Load.{load}
use Rattle.format.specs.Record.{Container}
use Rattle.format.specs.Lookups.{RunAnswers, DebugAnswers, run_answers, debug_answers}

-- A section, read on its own. Debug has no list: an unreadable debug section is absent, or 15

pub data OfTasks : Fault → Type 0 where
  short : OfTasks short_input
  task-type : (kind : ℕ) → 2 < kind → OfTasks (invalid_task_type kind)

pub data OfTypes : Fault → Type 0 where
  short : OfTypes short_input
  field-type : (kind : ℕ) → 10 < kind → OfTypes (invalid_field_type kind)
  stride : (kind extra stride : ℕ) → stride_fits kind extra stride ≡ false → OfTypes (invalid_array_stride kind stride)

pub data OfConstants : Fault → Type 0 where
  short : OfConstants short_input
  constant-type : (kind : ℕ) → 7 < kind → OfConstants (invalid_constant_type kind)
  constant-size : (kind size : ℕ) → kind ≤ 5 → 8 < size → OfConstants (invalid_constant_type kind)

pub data OfCode : Fault → Type 0 where
  short : OfCode short_input

-- Loading a file

pub data OfLoading : Fault → Type 0 where
  too-long : OfLoading too_long
  short-header : OfLoading short_input
  magic : OfLoading invalid_magic
  version : OfLoading unsupported_version
  place : OfLoading section_size_mismatch
  hash-unequal : OfLoading content_hash_mismatch
  tasks : {f : Fault} → OfTasks f → OfLoading f
  types : {f : Fault} → OfTypes f → OfLoading f
  constants : {f : Fault} → OfConstants f → OfLoading f
  code : {f : Fault} → OfCode f → OfLoading f

-- A lookup in tasks, types, constants or code: 10, 4, the section's own refusals, and those of the lookup in its tables
pub data InSection (Own Out : Fault → Type 0) : Fault → Type 0 where
  too-long : InSection Own Out too_long
  place : InSection Own Out section_size_mismatch
  section : {f : Fault} → Own f → InSection Own Out f
  lookup : {f : Fault} → Out f → InSection Own Out f

-- A lookup in the debug tables: 10, 15, and those of the lookup in its tables
pub data InDebug (Out : Fault → Type 0) : Fault → Type 0 where
  too-long : InDebug Out too_long
  no-debug : InDebug Out no_debug
  lookup : {f : Fault} → Out f → InDebug Out f

-- What a lookup in tables adds

-- a task or a program; an entry of a debug table by its index
pub data OfEntry : Fault → Type 0 where
  no-entry : OfEntry no_entry

-- an FB type, a field or a user FB
pub data OfTypeEntry : Fault → Type 0 where
  no-types : OfTypeEntry no_array
  no-entry : OfTypeEntry no_entry

-- an array: no types, or no such array
pub data OfArray : Fault → Type 0 where
  no-array : OfArray no_array

-- the size of an array
pub data OfArraySize : Fault → Type 0 where
  no-array : OfArraySize no_array
  overflow : OfArraySize size_overflow

-- the constant at index i
pub data OfConstant (i : ℕ) : Fault → Type 0 where
  no_index : OfConstant i (invalid_constant_index i)

-- a number of type `asked`: 9 has the type of the entry, which is another
pub data OfNumber (asked i : ℕ) : Fault → Type 0 where
  no_index : OfNumber asked i (invalid_constant_index i)
  other-type : (kind : ℕ) → kind ≤ 7 → (kind ≡ asked → ⊥) → OfNumber asked i (invalid_constant_type kind)

-- a string, or its character width: 9 has the type of the entry, which is a number
pub data OfString (i : ℕ) : Fault → Type 0 where
  no_index : OfString i (invalid_constant_index i)
  a-number : (kind : ℕ) → kind ≤ 5 → OfString i (invalid_constant_type kind)

-- a function or its bytecode
pub data OfFunction : Fault → Type 0 where
  no-function : OfFunction no_function

-- the source line of a function's offset
pub data OfSourceLine : Fault → Type 0 where
  unsorted : OfSourceLine unsorted_map
  no-line : OfSourceLine no_line

-- No other: a refusal, if the answer is one, is of the list

abbrev pub Only : {A : Type 0} → (Fault → Type 0) → Got A → Type 0
Only P (refused f) = P f
Only P (found a) = Unit {0}

pub record OnlyRun {T : Type 0} (a : RunAnswers T) : Type 0 where
  pub task : (i : ℕ) → Only (InSection OfTasks OfEntry) (a.task i)
  pub program : (i : ℕ) → Only (InSection OfTasks OfEntry) (a.program i)
  pub fb_type : (i : ℕ) → Only (InSection OfTypes OfTypeEntry) (a.fb_type i)
  pub field : (i j : ℕ) → Only (InSection OfTypes OfTypeEntry) (a.field i j)
  pub array : (i : ℕ) → Only (InSection OfTypes OfArray) (a.array i)
  pub array_size : (i : ℕ) → Only (InSection OfTypes OfArraySize) (a.array_size i)
  pub user_fb : (i : ℕ) → Only (InSection OfTypes OfTypeEntry) (a.user_fb i)
  pub constant : (i : ℕ) → Only (InSection OfConstants (OfConstant i)) (a.constant i)
  pub i32 : (i : ℕ) → Only (InSection OfConstants (OfNumber 0 i)) (a.i32 i)
  pub u32 : (i : ℕ) → Only (InSection OfConstants (OfNumber 1 i)) (a.u32 i)
  pub i64 : (i : ℕ) → Only (InSection OfConstants (OfNumber 2 i)) (a.i64 i)
  pub u64 : (i : ℕ) → Only (InSection OfConstants (OfNumber 3 i)) (a.u64 i)
  pub f32 : (i : ℕ) → Only (InSection OfConstants (OfNumber 4 i)) (a.f32 i)
  pub f64 : (i : ℕ) → Only (InSection OfConstants (OfNumber 5 i)) (a.f64 i)
  pub string : (i : ℕ) → Only (InSection OfConstants (OfString i)) (a.string i)
  pub char_width : (i : ℕ) → Only (InSection OfConstants (OfString i)) (a.char_width i)
  pub function : (i : ℕ) → Only (InSection OfCode OfFunction) (a.function i)
  pub bytecode : (i : ℕ) → Only (InSection OfCode OfFunction) (a.bytecode i)

pub record OnlyDebug {T : Type 0} (a : DebugAnswers T) : Type 0 where
  pub source_line : (function offset : ℕ) → Only (InDebug OfSourceLine) (a.source_line function offset)
  pub line : (i : ℕ) → Only (InDebug OfEntry) (a.line i)
  pub variable : (i : ℕ) → Only (InDebug OfEntry) (a.variable i)
  pub function_name : (i : ℕ) → Only (InDebug OfEntry) (a.function_name i)
  pub string_layout : (i : ℕ) → Only (InDebug OfEntry) (a.string_layout i)
  pub source_file : (i : ℕ) → Only (InDebug OfEntry) (a.source_file i)
  pub enumeration : (i : ℕ) → Only (InDebug OfEntry) (a.enumeration i)
  pub enumeration_value : (i j : ℕ) → Only (InDebug OfEntry) (a.enumeration_value i j)

-- Each of them: every refusal of the list is given by some file and record. Indexes are 0; `Indexing` says when other indexes are refused. A file
-- is any list of numbers here, as everywhere in these definitions: a value above 255 is given by a list that holds it as one number

abbrev pub Given : {A : Type 0} → (Fault → Type 0) → (List ℕ → Container → Got A) → Type 0
Given P look = (e : Fault) → P e → (f : List ℕ) × (r : Container) × (look f r ≡ refused e)

pub record GivenRun : Type 0 where
  pub task : Given (InSection OfTasks OfEntry) (λ f r. (run_answers f r).task 0)
  pub program : Given (InSection OfTasks OfEntry) (λ f r. (run_answers f r).program 0)
  pub fb_type : Given (InSection OfTypes OfTypeEntry) (λ f r. (run_answers f r).fb_type 0)
  pub field : Given (InSection OfTypes OfTypeEntry) (λ f r. (run_answers f r).field 0 0)
  pub array : Given (InSection OfTypes OfArray) (λ f r. (run_answers f r).array 0)
  pub array_size : Given (InSection OfTypes OfArraySize) (λ f r. (run_answers f r).array_size 0)
  pub user_fb : Given (InSection OfTypes OfTypeEntry) (λ f r. (run_answers f r).user_fb 0)
  pub constant : Given (InSection OfConstants (OfConstant 0)) (λ f r. (run_answers f r).constant 0)
  pub i32 : Given (InSection OfConstants (OfNumber 0 0)) (λ f r. (run_answers f r).i32 0)
  pub u32 : Given (InSection OfConstants (OfNumber 1 0)) (λ f r. (run_answers f r).u32 0)
  pub i64 : Given (InSection OfConstants (OfNumber 2 0)) (λ f r. (run_answers f r).i64 0)
  pub u64 : Given (InSection OfConstants (OfNumber 3 0)) (λ f r. (run_answers f r).u64 0)
  pub f32 : Given (InSection OfConstants (OfNumber 4 0)) (λ f r. (run_answers f r).f32 0)
  pub f64 : Given (InSection OfConstants (OfNumber 5 0)) (λ f r. (run_answers f r).f64 0)
  pub string : Given (InSection OfConstants (OfString 0)) (λ f r. (run_answers f r).string 0)
  pub char_width : Given (InSection OfConstants (OfString 0)) (λ f r. (run_answers f r).char_width 0)
  pub function : Given (InSection OfCode OfFunction) (λ f r. (run_answers f r).function 0)
  pub bytecode : Given (InSection OfCode OfFunction) (λ f r. (run_answers f r).bytecode 0)

pub record GivenDebug : Type 0 where
  pub source_line : Given (InDebug OfSourceLine) (λ f r. (debug_answers f r).source_line 0 0)
  pub line : Given (InDebug OfEntry) (λ f r. (debug_answers f r).line 0)
  pub variable : Given (InDebug OfEntry) (λ f r. (debug_answers f r).variable 0)
  pub function_name : Given (InDebug OfEntry) (λ f r. (debug_answers f r).function_name 0)
  pub string_layout : Given (InDebug OfEntry) (λ f r. (debug_answers f r).string_layout 0)
  pub source_file : Given (InDebug OfEntry) (λ f r. (debug_answers f r).source_file 0)
  pub enumeration : Given (InDebug OfEntry) (λ f r. (debug_answers f r).enumeration 0)
  pub enumeration_value : Given (InDebug OfEntry) (λ f r. (debug_answers f r).enumeration_value 0 0)

pub record Refusals (hash : List ℕ → List ℕ) : Type 0 where
  pub loading : (f : List ℕ) → Only OfLoading (load hash f)
  pub run : (f : List ℕ) (r : Container) → OnlyRun (run_answers f r)
  pub debug : (f : List ℕ) (r : Container) → OnlyDebug (debug_answers f r)
  pub loading-given : (e : Fault) → OfLoading e → (f : List ℕ) × (load hash f ≡ refused e)
  pub run-given : GivenRun
  pub debug-given : GivenDebug
