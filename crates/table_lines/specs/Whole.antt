-- The text of a whole file from the texts of its tables, for any file and record, in the order of the listing.
use Rattle.std.specs.Prelude.{ℕ, List, ◌++◌}
use Rattle.format.specs.Record.{Container}
use Rattle.listing.specs.Lines.{container_line, debug_line, end_line}
use Rattle.table_lines.specs.Tables.{tasks_text, programs_text, fb_types_text, arrays_text, user_fbs_text, constants_text, functions_text, lines_text}

abbrev pub types_text : List ℕ → Container → List ℕ
types_text f r = fb_types_text f r ++ arrays_text f r ++ user_fbs_text f r

-- the record's counts, and the lines
abbrev pub debug_text : List ℕ → Container → List ℕ
debug_text f r = debug_line r.debug ++ lines_text f r

abbrev pub file_text : List ℕ → Container → List ℕ
file_text f r =
    container_line r.header
    ++ tasks_text f r
    ++ programs_text f r
    ++ types_text f r
    ++ constants_text f r
    ++ functions_text f r
    ++ debug_text f r
    ++ end_line
