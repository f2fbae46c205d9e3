-- Which debug table of each tag is in force, and how many earlier ones it replaced (document 02, slip 2): "The loaded record shall hold, for each of the
-- six tags, the row number of the table in force and how many earlier rows it replaced. Rows count from 0."
use Rattle.std.specs.Prelude.{ℕ, suc, cond, List, [], ◌∷◌, eqb, length}
use Rattle.std.proofs.Math.Option.{Option, none, some}
use Rattle.reading.specs.Reader.{Read, fault, got}
use Rattle.format.specs.Debug.{Row, tag_of, rows_of}

-- of one tag: the row number, or none, and the count
pub record TableRow : Type 0 where
  pub row : Option ℕ
  pub replaced : ℕ

-- of the six tags
pub record InForce : Type 0 where
  pub lines : TableRow
  pub variables : TableRow
  pub functions : TableRow
  pub strings : TableRow
  pub files : TableRow
  pub enumerations : TableRow

-- the numbers of the rows that have a tag, where the first row has the number `i`; rows of every tag are counted, and only the tag decides
unfoldable pub rows_with : ℕ → ℕ → List Row → List ℕ
rows_with tag i [] = []
rows_with tag i (row ∷ rows) = cond (eqb (tag_of row) tag) (i ∷ rows_with tag (suc i) rows) (rows_with tag (suc i) rows)

-- the last of them is in force (document 01: "A later table of a tag replaces the earlier, even by an empty one"), and has replaced all the others;
-- "With no such row .. the row number is marked absent and the count is 0"
abbrev pub last_of : ℕ → List ℕ → ℕ
last_of i [] = i
last_of i (j ∷ js) = last_of j js

abbrev pub table_row : List ℕ → TableRow
table_row [] = record { row = none; replaced = 0 }
table_row (i ∷ is) = record { row = some (last_of i is); replaced = length is }

abbrev pub in_force_of : List Row → InForce
in_force_of rows =
    record {
      lines = table_row (rows_with 1 0 rows);
      variables = table_row (rows_with 2 0 rows);
      functions = table_row (rows_with 3 0 rows);
      strings = table_row (rows_with 4 0 rows);
      files = table_row (rows_with 6 0 rows);
      enumerations = table_row (rows_with 9 0 rows);
    }

-- none is in force: six times absent and 0
abbrev pub none_in_force : InForce
none_in_force =
    let absent = table_row [] in
    record { lines = absent; variables = absent; functions = absent; strings = absent; files = absent; enumerations = absent }

-- of a section: by its rows, and none where it ends before they do
abbrev pub in_force_by : Read (List Row) → InForce
in_force_by (fault f) = none_in_force
in_force_by (got rows rest) = in_force_of rows

unfoldable pub in_force_in : List ℕ → InForce
in_force_in section = in_force_by (rows_of section)

-- of a section from which debug was loaded or not: "or no debug loaded"
abbrev pub in_force_with : {A : Type 0} → List ℕ → Option A → InForce
in_force_with section none = none_in_force
in_force_with section (some tables) = in_force_in section

-- the six replaced counts: the independence rule covers these, and leaves the row numbers out
abbrev pub replaced_counts : InForce → List ℕ
replaced_counts u =
    u.lines.replaced ∷ u.variables.replaced ∷ u.functions.replaced ∷ u.strings.replaced ∷ u.files.replaced ∷ u.enumerations.replaced ∷ []
