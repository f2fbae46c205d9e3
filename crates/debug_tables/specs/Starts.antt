-- Where the tables in force stand in the debug section: the entries of each follow its count (document 01: "Known payloads start with a count 2"). A table
-- without a row is empty and at 0.
use Rattle.std.specs.Prelude.{ℕ, ◌+◌, ◌-◌, Bool, true, false, List, [], ◌∷◌, length}
use Rattle.reading.specs.Reader.{Reader, ◌>>=◌, give, left, many}
use Rattle.reading.specs.declared.Table.{Table}
use Rattle.format.specs.Parts.{Keep}
use Rattle.format.specs.Debug.{line, variable, function_name, string_layout, source_file, enumeration, Row, tag_of, size_of, kind_of, payload, rows_of}
use Rattle.format.specs.Debug.{Kind, lines, variables, functions, strings, files, enumerations, unknown}
use Rattle.format.specs.Debug.{Payload, of_lines, of_variables, of_functions, of_strings, of_files, of_enumerations, skipped}
use Rattle.debug_tables.specs.SixTags.{DebugTables, all_tags, with_kind}

abbrev pub nowhere : Table
nowhere = record { at = 0; count = 0 }

abbrev pub no_starts : DebugTables
no_starts = all_tags nowhere

-- The tables with `t` in force as that of its kind (document 01: "A later table of a tag replaces the earlier, even by an empty one")
abbrev pub put_as : Kind → Table → DebugTables → DebugTables
put_as kind t u = with_kind kind t u

-- where the entries of a payload at the place `at` stand: after its count; a skipped payload has none
abbrev pub behind_count : ℕ → ℕ → Table
behind_count at n = record { at = at + 2; count = n }

abbrev pub entries_at : {T : Type 0} → ℕ → Payload T → Table
entries_at at (of_lines es) = behind_count at (length es)
entries_at at (of_variables es) = behind_count at (length es)
entries_at at (of_functions es) = behind_count at (length es)
entries_at at (of_strings es) = behind_count at (length es)
entries_at at (of_files es) = behind_count at (length es)
entries_at at (of_enumerations es) = behind_count at (length es)
entries_at at skipped = nowhere

-- Names and paths aside: what is kept of them does not move a table
abbrev pub aside : Keep (Unit {0})
aside bytes behind = tt

-- the payload at the place `at`, of a row of that kind and size, for where its entries stand
abbrev pub payload_start : Kind → ℕ → ℕ → Reader Table
payload_start kind size at = do
  x ← payload aside kind size
  give (entries_at at x)

-- The payloads, in a section of `whole` bytes (document 01: "then payloads in row order")
abbrev pub debug_starts_of : ℕ → List Row → DebugTables → Reader DebugTables
debug_starts_of whole [] u = give u
debug_starts_of whole (row ∷ rows) u = do
  here ← left
  t ← payload_start (kind_of (tag_of row)) (size_of row) (whole - here)
  debug_starts_of whole rows (put_as (kind_of (tag_of row)) t u)

-- the section read as `debug_tables` reads it, for the places of its tables
unfoldable pub debug_starts : Reader DebugTables
debug_starts = do
  whole ← left
  rows ← rows_of
  debug_starts_of whole rows no_starts

-- Whether document 01 lists the tag
abbrev pub is_listed : Kind → Bool
is_listed lines = true
is_listed variables = true
is_listed functions = true
is_listed strings = true
is_listed files = true
is_listed enumerations = true
is_listed unknown = false

-- `n` entries of a listed table
abbrev pub entries_of : Kind → ℕ → Reader (Payload (Unit {0}))
entries_of lines n = many n line >>= λ es. give (of_lines es)
entries_of variables n = many n (variable aside) >>= λ es. give (of_variables es)
entries_of functions n = many n (function_name aside) >>= λ es. give (of_functions es)
entries_of strings n = many n string_layout >>= λ es. give (of_strings es)
entries_of files n = many n (source_file aside) >>= λ es. give (of_files es)
entries_of enumerations n = many n (enumeration aside) >>= λ es. give (of_enumerations es)
entries_of unknown n = give skipped
