-- The lookups (document 01: "All lookups take file and record"). Over any file and any record a section is read on its own,
-- at the record's place, size and function count; the record's other counts are not trusted. Refusals come in this order: 10, absence (types
-- 16, debug 15), the place (4, for debug 15), the section's own refusal (for debug 15), then 11 to 17 and 29.
use Rattle.std.specs.Prelude.{ℕ, ◌*◌, cond, List, leb, ℤ, length}
use Rattle.std.proofs.Math.Option.{Option, none, some}
use Rattle.reading.specs.Reader.{Reader}
use Rattle.reading.specs.Answer.{Got, refused, found, ◌>>=◌, ◌>>◌, need, indexed}
use Rattle.format.specs.Faults.{too_long, invalid_constant_index, no_function, no_debug, no_array, size_overflow, no_entry}
use Rattle.format.specs.Parts.{limit, Place, cut, Keep, by_place}
use Rattle.format.specs.Tasks.{Task, Program, TaskTable, task_table}
use Rattle.format.specs.Types.{Field, FbType, Array, UserFb, TypeTables, type_tables}
use Rattle.format.specs.Constants.{Constant, on_constant, constants, as_number, signed, as_string, char_width}
use Rattle.format.specs.Code.{Function, Code, code_of, bytecode_of}
use Rattle.format.specs.Debug.{Line, Variable, on_variable, FunctionName, on_function_name, StringLayout, SourceFile, on_source_file, Tables, debug_tables}
use Rattle.format.specs.Lines.{line_for}
use Rattle.format.specs.Load.{read_in}
use Rattle.format.specs.Record.{TypeCounts, DebugCounts, Container}

-- The five sections

-- a section read on its own at a place: 10, then 4, then its own refusal
unfoldable pub read_at : {A : Type 0} → List ℕ → Place → Reader A → Got A
read_at f p r = do
  need (leb (length f) limit) too_long
  read_in f p r

abbrev pub tasks_in : List ℕ → Container → Got TaskTable
tasks_in f r = read_at f r.header.directory.tasks task_table

-- document 01: "A record without types or debug gives 16 or 15 for any entry of theirs"
abbrev pub types_by : List ℕ → Place → Option TypeCounts → Got TypeTables
types_by f p none = need (leb (length f) limit) too_long >> refused no_array
types_by f p (some counts) = read_at f p type_tables

abbrev pub types_in : List ℕ → Container → Got TypeTables
types_in f r = types_by f r.header.directory.types r.types

abbrev pub constants_in : {T : Type 0} → (Place → Keep T) → List ℕ → Container → Got (List (Constant T))
constants_in keep f r = let p = r.header.directory.constants in read_at f p (constants (keep p))

abbrev pub code_in : List ℕ → Container → Got Code
code_in f r = read_at f r.header.directory.code (code_of r.header.runtime.functions)

-- for debug both refusals, of the place and of the section, become 15
abbrev pub or_no_debug : {A : Type 0} → Got A → Got A
or_no_debug (refused r) = refused no_debug
or_no_debug (found a) = found a

-- a debug section read on its own at a place: 10, then 15
unfoldable pub debug_at : {T : Type 0} → Keep T → List ℕ → Place → Got (Tables T)
debug_at keep f p = do
  need (leb (length f) limit) too_long
  or_no_debug (read_in f p (debug_tables keep))

-- without debug in the record: 15
abbrev pub debug_by : {T : Type 0} → Keep T → List ℕ → Place → Option DebugCounts → Got (Tables T)
debug_by keep f p none = need (leb (length f) limit) too_long >> refused no_debug
debug_by keep f p (some counts) = debug_at keep f p

unfoldable pub debug_in : {T : Type 0} → (Place → Keep T) → List ℕ → Container → Got (Tables T)
debug_in keep f r = let p = r.header.directory.debug in debug_by (keep p) f p r.debug

-- Each answer within a section's tables: indexing

abbrev pub task_of : ℕ → TaskTable → Got Task
task_of i t = indexed no_entry t.tasks i

abbrev pub program_of : ℕ → TaskTable → Got Program
program_of i t = indexed no_entry t.programs i

-- the answer for an FB type is its id and its field count; fields are looked up one by one
pub record FbTypeHead : Type 0 where
  pub id : ℕ
  pub field_count : ℕ

abbrev pub fb_type_head_of : FbType → FbTypeHead
fb_type_head_of b = record { id = b.id; field_count = length b.fields }

abbrev pub fb_type_of : ℕ → TypeTables → Got FbTypeHead
fb_type_of i t = indexed no_entry t.fb_types i >>= λ b. found (fb_type_head_of b)

abbrev pub field_of : ℕ → ℕ → TypeTables → Got Field
field_of i j t = indexed no_entry t.fb_types i >>= λ b. indexed no_entry b.fields j

abbrev pub array_of : ℕ → TypeTables → Got Array
array_of i t = indexed no_array t.arrays i

-- the size of an array, elements times stride; 17 if it does not fit 32 bits
abbrev pub byte_size : Array → Got ℕ
byte_size a = cond (leb (a.elements * a.stride) 4294967295) (found (a.elements * a.stride)) (refused size_overflow)

abbrev pub array_size_of : ℕ → TypeTables → Got ℕ
array_size_of i t = array_of i t >>= byte_size

abbrev pub user_fb_of : ℕ → TypeTables → Got UserFb
user_fb_of i t = indexed no_entry t.user_fbs i

abbrev pub constant_of : {T : Type 0} → ℕ → List (Constant T) → Got (Constant T)
constant_of i cs = indexed (invalid_constant_index i) cs i

-- a constant of type `kind` as a number of `width` bytes
abbrev pub number_of : {T : Type 0} → ℕ → ℕ → ℕ → List (Constant T) → Got ℕ
number_of kind width i cs = constant_of i cs >>= as_number kind width

abbrev pub string_of : {T : Type 0} → ℕ → List (Constant T) → Got T
string_of i cs = constant_of i cs >>= as_string

abbrev pub char_width_of : {T : Type 0} → ℕ → List (Constant T) → Got ℕ
char_width_of i cs = constant_of i cs >>= char_width

-- a function is found by its position in the directory, never by the stored id
abbrev pub function_of : ℕ → Code → Got Function
function_of i c = indexed no_function c.functions i

abbrev pub function_bytes_of : {T : Type 0} → Keep T → ℕ → Code → Got T
function_bytes_of keep i c = function_of i c >>= bytecode_of keep c.bytecode

-- the answer for an enumeration is its name and its value count; values are looked up one by one
pub record EnumerationHead (T : Type 0) : Type 0 where
  pub named : T
  pub value_count : ℕ

abbrev pub enumeration_of : {T : Type 0} → ℕ → Tables T → Got (EnumerationHead T)
enumeration_of i t = indexed no_entry t.enumerations i >>= λ e. found (record { named = e.named; value_count = length e.values })

abbrev pub enumeration_value_of : {T : Type 0} → ℕ → ℕ → Tables T → Got T
enumeration_value_of i j t = indexed no_entry t.enumerations i >>= λ e. indexed no_entry e.values j

-- Every lookup, named once. `T` stands for a string, a function's bytecode, a name or a path

-- the lookups of what the machine runs
pub record RunAnswers (T : Type 0) : Type 0 where
  pub task : ℕ → Got Task
  pub program : ℕ → Got Program
  pub fb_type : ℕ → Got FbTypeHead
  pub field : ℕ → ℕ → Got Field
  pub array : ℕ → Got Array
  pub array_size : ℕ → Got ℕ
  pub user_fb : ℕ → Got UserFb
  pub constant : ℕ → Got (Constant T)
  pub i32 : ℕ → Got ℤ
  pub u32 : ℕ → Got ℕ
  pub i64 : ℕ → Got ℤ
  pub u64 : ℕ → Got ℕ
  pub f32 : ℕ → Got ℕ
  pub f64 : ℕ → Got ℕ
  pub string : ℕ → Got T
  pub char_width : ℕ → Got ℕ
  pub function : ℕ → Got Function
  pub bytecode : ℕ → Got T

-- the lookups in the debug tables
pub record DebugAnswers (T : Type 0) : Type 0 where
  pub source_line : ℕ → ℕ → Got Line
  pub line : ℕ → Got Line
  pub variable : ℕ → Got (Variable T)
  pub function_name : ℕ → Got (FunctionName T)
  pub string_layout : ℕ → Got StringLayout
  pub source_file : ℕ → Got (SourceFile T)
  pub enumeration : ℕ → Got (EnumerationHead T)
  pub enumeration_value : ℕ → ℕ → Got T

-- the answers from the tables, or the refusals in their place
abbrev pub run_answers_of : {T : Type 0} → Keep T → Got TaskTable → Got TypeTables → Got (List (Constant T)) → Got Code → RunAnswers T
run_answers_of keep tasks types constants code =
    record {
      task = λ i. tasks >>= task_of i;
      program = λ i. tasks >>= program_of i;
      fb_type = λ i. types >>= fb_type_of i;
      field = λ i j. types >>= field_of i j;
      array = λ i. types >>= array_of i;
      array_size = λ i. types >>= array_size_of i;
      user_fb = λ i. types >>= user_fb_of i;
      constant = λ i. constants >>= constant_of i;
      i32 = λ i. constants >>= number_of 0 4 i >>= λ n. found (signed 2147483648 n);
      u32 = λ i. constants >>= number_of 1 4 i;
      i64 = λ i. constants >>= number_of 2 8 i >>= λ n. found (signed 9223372036854775808 n);
      u64 = λ i. constants >>= number_of 3 8 i;
      f32 = λ i. constants >>= number_of 4 4 i;
      f64 = λ i. constants >>= number_of 5 8 i;
      string = λ i. constants >>= string_of i;
      char_width = λ i. constants >>= char_width_of i;
      function = λ i. code >>= function_of i;
      bytecode = λ i. code >>= function_bytes_of keep i;
    }

abbrev pub debug_answers_of : {T : Type 0} → Got (Tables T) → DebugAnswers T
debug_answers_of tables =
    record {
      source_line = λ function offset. tables >>= λ t. line_for function offset t.lines;
      line = λ i. tables >>= λ t. indexed no_entry t.lines i;
      variable = λ i. tables >>= λ t. indexed no_entry t.variables i;
      function_name = λ i. tables >>= λ t. indexed no_entry t.functions i;
      string_layout = λ i. tables >>= λ t. indexed no_entry t.strings i;
      source_file = λ i. tables >>= λ t. indexed no_entry t.files i;
      enumeration = λ i. tables >>= enumeration_of i;
      enumeration_value = λ i j. tables >>= enumeration_value_of i j;
    }

-- The answers over a file and a record; strings, bytecode, names and paths by their place in the file

abbrev pub run_answers : List ℕ → Container → RunAnswers Place
run_answers f r = run_answers_of (by_place r.header.directory.code) (tasks_in f r) (types_in f r) (constants_in by_place f r) (code_in f r)

abbrev pub debug_answers : List ℕ → Container → DebugAnswers Place
debug_answers f r = debug_answers_of (debug_in by_place f r)

-- The same, "places in the file aside": each part by its bytes

abbrev pub run_by_bytes : List ℕ → RunAnswers Place → RunAnswers (List ℕ)
run_by_bytes f a =
    record {
      task = a.task;
      program = a.program;
      fb_type = a.fb_type;
      field = a.field;
      array = a.array;
      array_size = a.array_size;
      user_fb = a.user_fb;
      constant = λ i. a.constant i >>= λ c. found (on_constant (cut f) c);
      i32 = a.i32;
      u32 = a.u32;
      i64 = a.i64;
      u64 = a.u64;
      f32 = a.f32;
      f64 = a.f64;
      string = λ i. a.string i >>= λ p. found (cut f p);
      char_width = a.char_width;
      function = a.function;
      bytecode = λ i. a.bytecode i >>= λ p. found (cut f p);
    }

abbrev pub debug_by_bytes : List ℕ → DebugAnswers Place → DebugAnswers (List ℕ)
debug_by_bytes f a =
    record {
      source_line = a.source_line;
      line = a.line;
      variable = λ i. a.variable i >>= λ v. found (on_variable (cut f) v);
      function_name = λ i. a.function_name i >>= λ n. found (on_function_name (cut f) n);
      string_layout = a.string_layout;
      source_file = λ i. a.source_file i >>= λ s. found (on_source_file (cut f) s);
      enumeration = λ i. a.enumeration i >>= λ e. found (record { named = cut f e.named; value_count = e.value_count });
      enumeration_value = λ i j. a.enumeration_value i j >>= λ p. found (cut f p);
    }
