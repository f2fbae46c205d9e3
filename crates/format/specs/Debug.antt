-- The debug section (document 01, "Sections", Debug): from the section's bytes to its six tables.
use Rattle.std.specs.Prelude.{cond, List, [], ◌∷◌, ℕ, ◌-◌, eqb}
use Rattle.utf8.specs.Utf8.{valid_up_to, utf8}
use Rattle.reading.specs.Fault.{bad_text}
use Rattle.reading.specs.Numbers.{le_at}
use Rattle.reading.specs.Reader.{Reader, ◌>>=◌, ◌>>◌, give, check, left, bytes, u8, u16, u32, counted}
use Rattle.format.specs.Parts.{hash_size, Keep}

-- Names and paths

-- `n` bytes that must be UTF-8
unfoldable pub text : {T : Type 0} → Keep T → ℕ → Reader T
text keep n = do
  whole ← left
  t ← bytes n
  check (utf8 t) (bad_text (whole - valid_up_to t))
  give (keep t (whole - n))

-- a name has a 1-byte length, a path a 2-byte length
unfoldable pub name : {T : Type 0} → Keep T → Reader T
name keep = do
  n ← u8
  text keep n

unfoldable pub path : {T : Type 0} → Keep T → Reader T
path keep = do
  n ← u16
  text keep n

-- The entries of the six tables

-- tag 1: function, offset, file, line, column, 2 each
pub record Line : Type 0 where
  pub function : ℕ
  pub offset : ℕ
  pub file : ℕ
  pub line : ℕ
  pub column : ℕ

unfoldable pub line : Reader Line
line = do
  function ← u16
  offset ← u16
  file ← u16
  line ← u16
  column ← u16
  give (record { function = function; offset = offset; file = file; line = line; column = column })

-- tag 2: index 2, function 2, section 1, type 1, name, type name
pub record Variable (T : Type 0) : Type 0 where
  pub index : ℕ
  pub function : ℕ
  pub section : ℕ
  pub type_tag : ℕ
  pub named : T
  pub type_name : T

unfoldable pub variable : {T : Type 0} → Keep T → Reader (Variable T)
variable keep = do
  index ← u16
  function ← u16
  section ← u8
  type_tag ← u8
  named ← name keep
  type_name ← name keep
  give (record { index = index; function = function; section = section; type_tag = type_tag; named = named; type_name = type_name })

-- tag 3: id 2, name
pub record FunctionName (T : Type 0) : Type 0 where
  pub id : ℕ
  pub named : T

unfoldable pub function_name : {T : Type 0} → Keep T → Reader (FunctionName T)
function_name keep = do
  id ← u16
  named ← name keep
  give (record { id = id; named = named })

-- tag 4: variable 2, data offset 4, length 2
pub record StringLayout : Type 0 where
  pub variable : ℕ
  pub data_offset : ℕ
  pub max_length : ℕ

unfoldable pub string_layout : Reader StringLayout
string_layout = do
  variable ← u16
  data_offset ← u32
  max_length ← u16
  give (record { variable = variable; data_offset = data_offset; max_length = max_length })

-- tag 6: 2-byte length, path, 32-byte hash
pub record SourceFile (T : Type 0) : Type 0 where
  pub located : T
  pub hash : List ℕ

unfoldable pub source_file : {T : Type 0} → Keep T → Reader (SourceFile T)
source_file keep = do
  located ← path keep
  hash ← bytes hash_size
  give (record { located = located; hash = hash })

-- tag 9: name, value count 2, names
pub record Enumeration (T : Type 0) : Type 0 where
  pub named : T
  pub values : List T

unfoldable pub enumeration : {T : Type 0} → Keep T → Reader (Enumeration T)
enumeration keep = do
  named ← name keep
  values ← counted (name keep)
  give (record { named = named; values = values })

-- The same entries with `h` applied to their names and paths

abbrev pub on_variable : {T U : Type 0} → (U → T) → Variable U → Variable T
on_variable h v =
    record { index = v.index; function = v.function; section = v.section; type_tag = v.type_tag; named = h v.named; type_name = h v.type_name }

abbrev pub on_function_name : {T U : Type 0} → (U → T) → FunctionName U → FunctionName T
on_function_name h n = record { id = n.id; named = h n.named }

abbrev pub on_source_file : {T U : Type 0} → (U → T) → SourceFile U → SourceFile T
on_source_file h s = record { located = h s.located; hash = s.hash }

-- Rows, 8 bytes each: tag 2, reserved 2, size 4

abbrev pub Row : Type 0
Row = List ℕ

unfoldable pub tag_of : Row → ℕ
tag_of row = le_at 2 row 0

unfoldable pub size_of : Row → ℕ
size_of row = le_at 4 row 4

-- the tags that document 01 lists; `unknown` is any other
pub data Kind : Type 0 where
  lines variables functions strings files enumerations unknown : Kind

unfoldable pub kind_of : ℕ → Kind
kind_of tag =
    cond (eqb tag 1) lines
    (cond (eqb tag 2) variables
    (cond (eqb tag 3) functions
    (cond (eqb tag 4) strings
    (cond (eqb tag 6) files
    (cond (eqb tag 9) enumerations unknown)))))

-- Payloads

-- what the payload of a row holds
pub data Payload (T : Type 0) : Type 0 where
  of_lines : List Line → Payload T
  of_variables : List (Variable T) → Payload T
  of_functions : List (FunctionName T) → Payload T
  of_strings : List StringLayout → Payload T
  of_files : List (SourceFile T) → Payload T
  of_enumerations : List (Enumeration T) → Payload T
  skipped : Payload T

-- document 01: known payloads "are read by their own counts; their size is ignored. Other tags are skipped by size"
abbrev pub payload : {T : Type 0} → Keep T → Kind → ℕ → Reader (Payload T)
payload keep lines size = do
  es ← counted line
  give (of_lines es)
payload keep variables size = do
  es ← counted (variable keep)
  give (of_variables es)
payload keep functions size = do
  es ← counted (function_name keep)
  give (of_functions es)
payload keep strings size = do
  es ← counted string_layout
  give (of_strings es)
payload keep files size = do
  es ← counted (source_file keep)
  give (of_files es)
payload keep enumerations size = do
  es ← counted (enumeration keep)
  give (of_enumerations es)
payload keep unknown size = do
  b ← bytes size
  give skipped

unfoldable pub payload_of : {T : Type 0} → Keep T → Row → Reader (Payload T)
payload_of keep row = payload keep (kind_of (tag_of row)) (size_of row)

-- The six tables in force: a later table of a tag replaces the earlier, even by an empty one

pub record Tables (T : Type 0) : Type 0 where
  pub lines : List Line
  pub variables : List (Variable T)
  pub functions : List (FunctionName T)
  pub strings : List StringLayout
  pub files : List (SourceFile T)
  pub enumerations : List (Enumeration T)

abbrev pub no_tables : {T : Type 0} → Tables T
no_tables = record { lines = []; variables = []; functions = []; strings = []; files = []; enumerations = [] }

abbrev pub put : {T : Type 0} → Payload T → Tables T → Tables T
put (of_lines es) t =
    record { lines = es; variables = t.variables; functions = t.functions; strings = t.strings; files = t.files; enumerations = t.enumerations }
put (of_variables es) t =
    record { lines = t.lines; variables = es; functions = t.functions; strings = t.strings; files = t.files; enumerations = t.enumerations }
put (of_functions es) t =
    record { lines = t.lines; variables = t.variables; functions = es; strings = t.strings; files = t.files; enumerations = t.enumerations }
put (of_strings es) t =
    record { lines = t.lines; variables = t.variables; functions = t.functions; strings = es; files = t.files; enumerations = t.enumerations }
put (of_files es) t =
    record { lines = t.lines; variables = t.variables; functions = t.functions; strings = t.strings; files = es; enumerations = t.enumerations }
put (of_enumerations es) t =
    record { lines = t.lines; variables = t.variables; functions = t.functions; strings = t.strings; files = t.files; enumerations = es }
put skipped t = t

-- the payloads in row order
abbrev pub tables_of : {T : Type 0} → Keep T → List Row → Tables T → Reader (Tables T)
tables_of keep [] t = give t
tables_of keep (row ∷ rows) t = do
  x ← payload_of keep row
  tables_of keep rows (put x t)

-- The section: count 2, the rows, then the payloads; any bytes after these are not read

unfoldable pub rows_of : Reader (List Row)
rows_of = counted (bytes 8)

unfoldable pub debug_tables : {T : Type 0} → Keep T → Reader (Tables T)
debug_tables keep = do
  rows ← rows_of
  tables_of keep rows no_tables
