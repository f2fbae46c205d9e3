-- What the code's answers mean.
use Rattle.std.specs.Prelude.{ℕ}
use Rattle.std.specs.Prelude as std
use Rattle.std.proofs.Math.Option.{Option, none, some}
use Rattle.format.specs.Debug.{Kind, lines, variables, functions, strings, files, enumerations, unknown}
use Rattle.format.specs.InForce as force
use Rattle.format.specs.Record as record_of
use Rattle.debug_tables.specs.SixTags.{DebugCounts}
use Rattle.debug_tables.specs.declared.SixTags.{SixTags}
use Rattle.debug_tables.specs.declared.TableKind.{TableKind}
use Rattle.debug_tables.specs.declared.TableKind.TheVariants as kind
use Rattle.debug_tables.specs.declared.in_force.TableRow.{TableRow}

abbrev pub kind_in : TableKind → Kind
kind_in kind.Lines = lines
kind_in kind.Variables = variables
kind_in kind.Functions = functions
kind_in kind.Strings = strings
kind_in kind.Files = files
kind_in kind.Enumerations = enumerations
kind_in kind.Unknown = unknown

abbrev pub debug_counts_in : DebugCounts → record_of.DebugCounts
debug_counts_in c =
    record {
      lines = c.lines;
      variables = c.variables;
      functions = c.functions;
      strings = c.strings;
      files = c.files;
      enumerations = c.enumerations;
    }

-- what a record holds of them: none where the container loads with no debug
abbrev pub maybe_debug : std.Option DebugCounts → Option record_of.DebugCounts
maybe_debug std.None = none
maybe_debug (std.Some c) = some (debug_counts_in c)

-- the bad place of a section
abbrev pub bad_place_in : std.Option ℕ → Option ℕ
bad_place_in std.None = none
bad_place_in (std.Some p) = some p

-- the rows of the tables in force
abbrev pub maybe_row : std.Option ℕ → Option ℕ
maybe_row std.None = none
maybe_row (std.Some i) = some i

abbrev pub table_row_in : TableRow → force.TableRow
table_row_in t = record { row = maybe_row t.row; replaced = t.replaced }

abbrev pub RowsInForce : Type 0
RowsInForce = SixTags TableRow

abbrev pub rows_in_force : RowsInForce → force.InForce
rows_in_force u =
    record {
      lines = table_row_in u.lines;
      variables = table_row_in u.variables;
      functions = table_row_in u.functions;
      strings = table_row_in u.strings;
      files = table_row_in u.files;
      enumerations = table_row_in u.enumerations;
    }
