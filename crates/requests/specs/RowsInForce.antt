-- Slip 2: which debug table is in force. "The loaded record shall hold, for each of the six tags, the row number of the table in force and how many
-- earlier rows it replaced": `in_force` of the record, defined in the crate format (`InForce`, `Load`, `Record`). Here: what these numbers say.
use Rattle.std.specs.Prelude.{ℕ, suc, cond, ◌≡◌, List, [], ◌∷◌, ◌++◌, eqb, length}
use Rattle.std.proofs.Math.Option.{none, some}
use Rattle.reading.specs.Reader.{got}
use Rattle.reading.specs.Answer.{found, ◌>>=◌}
use Rattle.format.specs.Parts.{cut, by_bytes}
use Rattle.format.specs.Debug.{Row, tag_of, kind_of, rows_of, payload_of, Tables, no_tables, tables_of}
use Rattle.format.specs.Debug.{Kind, lines, variables, functions, strings, files, enumerations, unknown}
use Rattle.format.specs.Debug.{Payload, of_lines, of_variables, of_functions, of_strings, of_files, of_enumerations, skipped}
use Rattle.format.specs.InForce.{TableRow, InForce, in_force_of, in_force_in, replaced_counts}
use Rattle.format.specs.Record.{DebugCounts, Container, table_counts, read_from}
use Rattle.format.specs.Lookups.{run_answers, debug_answers}
use Rattle.format.specs.Examples.{mill_with, mill, stripped, line_row, line_table, lines_twice, SecondHalfNotVacuous}
use Rattle.requests.specs.BadPlace.{bad_place_of, row_of}

-- The rows of any directory

-- how many rows have a tag
abbrev pub count_of : ℕ → List Row → ℕ
count_of tag [] = 0
count_of tag (row ∷ rows) = cond (eqb (tag_of row) tag) (suc (count_of tag rows)) (count_of tag rows)

-- the row with the number `i`, "Rows count from 0", has the tag, no later row has it, and `replaced` earlier ones have it
pub record LastWith (tag : ℕ) (rows : List Row) (i replaced : ℕ) : Type 0 where
  pub before : List Row
  pub row : Row
  pub behind : List Row
  pub split : rows ≡ before ++ (row ∷ behind)
  pub number : length before ≡ i
  pub tagged : tag_of row ≡ tag
  pub no-later : count_of tag behind ≡ 0
  pub earlier : count_of tag before ≡ replaced

-- what is held of a tag: that row, or "With no such row, .. the row number is marked absent and the count is 0"
pub record RowInForce (tag : ℕ) (rows : List Row) (t : TableRow) : Type 0 where
  pub in-force : (i : ℕ) → t.row ≡ some i → LastWith tag rows i t.replaced
  pub absent : t.row ≡ none → (count_of tag rows ≡ 0) × (t.replaced ≡ 0)
  pub no_row : count_of tag rows ≡ 0 → t.row ≡ none

-- "for each of the six tags"
pub record SixTags (rows : List Row) : Type 0 where
  pub lines : RowInForce 1 rows (in_force_of rows).lines
  pub variables : RowInForce 2 rows (in_force_of rows).variables
  pub functions : RowInForce 3 rows (in_force_of rows).functions
  pub strings : RowInForce 4 rows (in_force_of rows).strings
  pub files : RowInForce 6 rows (in_force_of rows).files
  pub enumerations : RowInForce 9 rows (in_force_of rows).enumerations

-- That row's table is the one in force: document 01's reader, which reads the payloads in row order and lets a later table replace the earlier,
-- ends with the table that it reads from this row

-- the table of a kind, as the payload that it was read from
abbrev pub table_as : {T : Type 0} → Kind → Tables T → Payload T
table_as lines t = of_lines t.lines
table_as variables t = of_variables t.variables
table_as functions t = of_functions t.functions
table_as strings t = of_strings t.strings
table_as files t = of_files t.files
table_as enumerations t = of_enumerations t.enumerations
table_as unknown t = skipped

-- reading the payloads of the rows `before` comes to the place where the payload of `row` is the table
pub record TableOfRow (tag : ℕ) (before : List Row) (row : Row) (payloads : List ℕ) (t : Tables (List ℕ)) : Type 0 where
  pub so_far : Tables (List ℕ)
  pub start : List ℕ
  pub end : List ℕ
  pub earlier : tables_of by_bytes before no_tables payloads ≡ got so_far start
  pub own : payload_of by_bytes row start ≡ got (table_as (kind_of tag) t) end

-- the tables that reading the payloads of these rows gives
pub record TablesOfRows (rows : List Row) (payloads : List ℕ) (t : Tables (List ℕ)) : Type 0 where
  pub in-force : (tag i replaced : ℕ) (l : LastWith tag rows i replaced) → TableOfRow tag l.before l.row payloads t
  pub no_row : (tag : ℕ) → count_of tag rows ≡ 0 → table_as (kind_of tag) t ≡ table_as (kind_of tag) no_tables

-- The loaded record

-- a record's rows are those of its file's debug section, from which the tables were read that its counts count
pub record RowsOfSection (s : List ℕ) (c : DebugCounts) (u : InForce) : Type 0 where
  pub rows : List Row
  pub payloads : List ℕ
  pub tables : Tables (List ℕ)
  pub rest : List ℕ
  pub directory : rows_of s ≡ got rows payloads
  pub reads : tables_of by_bytes rows no_tables payloads ≡ got tables rest
  pub counts : c ≡ table_counts tables
  pub told : u ≡ in_force_of rows

-- absent and 0, and this six times
abbrev pub absent_row : TableRow
absent_row = record { row = none; replaced = 0 }

abbrev pub all_absent : InForce
all_absent = record { lines = absent_row; variables = absent_row; functions = absent_row; strings = absent_row; files = absent_row; enumerations = absent_row }

pub record LoadedRows (hash : List ℕ → List ℕ) : Type 0 where
  pub debug : (f : List ℕ) (r : Container) (c : DebugCounts) → read_from hash f ≡ found r → r.debug ≡ some c → RowsOfSection (cut f r.header.directory.debug) c r.in_force
  -- "or no debug loaded", for whatever reason: six times absent and 0
  pub no-debug : (f : List ℕ) (r : Container) → read_from hash f ≡ found r → r.debug ≡ none → r.in_force ≡ all_absent

-- No lookup reads the rows: whatever a record says of them, every answer over it is the same

abbrev pub with_rows : InForce → Container → Container
with_rows u r = record { header = r.header; tasks = r.tasks; types = r.types; constants = r.constants; debug = r.debug; in_force = u }

pub record RowsUnread : Type 0 where
  pub run : (f : List ℕ) (r : Container) (u : InForce) → run_answers f (with_rows u r) ≡ run_answers f r
  pub debug : (f : List ℕ) (r : Container) (u : InForce) → debug_answers f (with_rows u r) ≡ debug_answers f r
  pub bad-place : (f : List ℕ) (r : Container) (u : InForce) → bad_place_of f (with_rows u r) ≡ bad_place_of f r

-- "so the independence rule leaves them out and covers the replaced counts": two records alike in what the rule compares are alike in each of the six
-- counts, and nothing else is compared

pub record SameReplaced (u v : InForce) : Type 0 where
  pub lines : u.lines.replaced ≡ v.lines.replaced
  pub variables : u.variables.replaced ≡ v.variables.replaced
  pub functions : u.functions.replaced ≡ v.functions.replaced
  pub strings : u.strings.replaced ≡ v.strings.replaced
  pub files : u.files.replaced ≡ v.files.replaced
  pub enumerations : u.enumerations.replaced ≡ v.enumerations.replaced

pub record CountsCovered : Type 0 where
  pub all-six : (u v : InForce) → replaced_counts u ≡ replaced_counts v → SameReplaced u v
  pub nothing-else : (u v : InForce) → SameReplaced u v → replaced_counts u ≡ replaced_counts v

-- "Row numbers may shift when unknown tables are added": M and M with an unknown table in front of its lines meet the premises of demand 3's second half,
-- whose conclusion has the replaced counts (`SameDebug`, `SameDebugRecords` of format), and the lines' row moves
pub record RowsShift (hash : List ℕ → List ℕ) : Type 0 where
  pub files : SecondHalfNotVacuous hash
  pub first-row : files.first.in_force.lines ≡ record { row = some 0; replaced = 0 }
  pub second-row : files.second.in_force.lines ≡ record { row = some 1; replaced = 0 }

-- Examples

-- lines alone have a row
abbrev pub only_lines : ℕ → ℕ → InForce
only_lines i replaced =
    record {
      lines = record { row = some i; replaced = replaced };
      variables = absent_row;
      functions = absent_row;
      strings = absent_row;
      files = absent_row;
      enumerations = absent_row;
    }

pub record InForceExamples (hash : List ℕ → List ℕ) : Type 0 where
  pub one-table : (read_from hash mill >>= λ r. found r.in_force) ≡ found (only_lines 0 0)
  -- M's lines behind an empty table of lines; and M's lines twice, with an empty table last
  pub two-tables : (read_from hash (mill_with 6 0 lines_twice) >>= λ r. found r.in_force) ≡ found (only_lines 1 1)
  pub empty-last : (read_from hash (mill_with 6 0 (3 ∷ 0 ∷ line_row 0 ++ line_row 0 ++ line_row 0 ++ line_table ++ line_table ++ 0 ∷ 0 ∷ [])) >>= λ r. found r.in_force)
      ≡ found (only_lines 2 2)
  -- no debug: its size is 0; and the section ends inside the lines, whose row stands there
  pub no-debug : (read_from hash stripped >>= λ r. found r.in_force) ≡ found all_absent
  pub unreadable : (read_from hash (mill_with 6 0 (1 ∷ 0 ∷ line_row 0 ++ 1 ∷ 0 ∷ [])) >>= λ r. found r.in_force) ≡ found all_absent
  -- a directory alone, with rows of the tags 1, 2, 1, 9, 9, 9, 6, 5, 4, 5 and 257, which has the low byte of 1: each tag its own
  pub each-its-own : in_force_in (11 ∷ 0 ∷ row_of 1 ++ row_of 2 ++ row_of 1 ++ row_of 9 ++ row_of 9 ++ row_of 9 ++ row_of 6 ++ row_of 5 ++ row_of 4 ++ row_of 5 ++ 1 ∷ 1 ∷ 0 ∷ 0 ∷ 0 ∷ 0 ∷ 0 ∷ 0 ∷ [])
      ≡ record {
        lines = record { row = some 2; replaced = 1 };
        variables = record { row = some 1; replaced = 0 };
        functions = record { row = none; replaced = 0 };
        strings = record { row = some 8; replaced = 0 };
        files = record { row = some 6; replaced = 0 };
        enumerations = record { row = some 5; replaced = 2 };
      }
