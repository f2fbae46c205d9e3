-- A record as numbers, piece by piece, in the order in which `container_load` writes them.
use Rattle.std.specs.Prelude.{ℕ, List, [], ◌∷◌, ◌++◌}
use Rattle.std.proofs.Math.Option.{Option, none, some}
use Rattle.format.specs.Header.{Header, Directory, Runtime}
use Rattle.format.specs.InForce.{TableRow, InForce}
use Rattle.format.specs.Record.{TaskCounts, TypeCounts, DebugCounts, Container}

-- version, profile, flags
abbrev pub head_numbers : Header → List ℕ
head_numbers h = h.version ∷ h.profile ∷ h.flags ∷ []

-- offset and size of the seven sections, in the header's order
abbrev pub directory_numbers : Directory → List ℕ
directory_numbers d =
    d.signature.offset ∷ d.signature.size ∷ d.debug_signature.offset ∷ d.debug_signature.size ∷ d.types.offset ∷ d.types.size ∷ d.tasks.offset ∷ d.tasks.size
    ∷ d.constants.offset ∷ d.constants.size ∷ d.code.offset ∷ d.code.size ∷ d.debug.offset ∷ d.debug.size ∷ []

-- the eleven runtime numbers, in the order of `from_bytes`
abbrev pub runtime_numbers : Runtime → List ℕ
runtime_numbers r =
    r.max_stack_depth ∷ r.max_call_depth ∷ r.variables ∷ r.data_region_bytes ∷ r.temp_buffers ∷ r.max_temp_buffer_bytes ∷ r.functions ∷ r.fb_types
    ∷ r.input_image_bytes ∷ r.output_image_bytes ∷ r.memory_image_bytes ∷ []

abbrev pub header_numbers : Header → List ℕ
header_numbers h = head_numbers h ++ directory_numbers h.directory ++ runtime_numbers h.runtime

-- tasks, programs, shared globals size
abbrev pub task_count_numbers : TaskCounts → List ℕ
task_count_numbers t = t.tasks ∷ t.programs ∷ t.shared_globals ∷ []

-- 1, then FB types, arrays, user FBs; without types four times 0
abbrev pub type_count_numbers : Option TypeCounts → List ℕ
type_count_numbers none = 0 ∷ 0 ∷ 0 ∷ 0 ∷ []
type_count_numbers (some t) = 1 ∷ t.fb_types ∷ t.arrays ∷ t.user_fbs ∷ []

-- 1, then lines, variables, functions, strings, files, enumerations; without debug seven times 0
abbrev pub debug_count_numbers : Option DebugCounts → List ℕ
debug_count_numbers none = 0 ∷ 0 ∷ 0 ∷ 0 ∷ 0 ∷ 0 ∷ 0 ∷ []
debug_count_numbers (some d) = 1 ∷ d.lines ∷ d.variables ∷ d.functions ∷ d.strings ∷ d.files ∷ d.enumerations ∷ []

-- of a tag: 1 and the row's number, or 0 and 0 without a row; then the replaced count
abbrev pub row_flag : Option ℕ → ℕ
row_flag none = 0
row_flag (some i) = 1

abbrev pub row_number : Option ℕ → ℕ
row_number none = 0
row_number (some i) = i

abbrev pub table_row_numbers : TableRow → List ℕ
table_row_numbers t = row_flag t.row ∷ row_number t.row ∷ t.replaced ∷ []

-- the tags in turn: 1, 2, 3, 4, 6, 9
abbrev pub in_force_numbers : InForce → List ℕ
in_force_numbers u =
    table_row_numbers u.lines ++ table_row_numbers u.variables ++ table_row_numbers u.functions ++ table_row_numbers u.strings ++ table_row_numbers u.files
    ++ table_row_numbers u.enumerations

-- what stands for a record in a lookup, and behind it the rows in force, which no lookup reads
abbrev pub lookup_numbers : Container → List ℕ
lookup_numbers c = header_numbers c.header ++ task_count_numbers c.tasks ++ type_count_numbers c.types ++ (c.constants ∷ []) ++ debug_count_numbers c.debug

abbrev pub record_numbers : Container → List ℕ
record_numbers c = lookup_numbers c ++ in_force_numbers c.in_force
