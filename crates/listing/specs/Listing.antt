-- The listing of a file (document 01, "Mill file M"): "entries in file order"; "of the debug tables only lines are listed"; "`end` closes a loaded
-- file's lines"; "A refused file prints one line".
use Rattle.std.specs.Prelude.{ℕ, suc, List, [], ◌∷◌, ◌++◌, length}
use Rattle.std.proofs.Math.Option.{Option, none, some}
use Rattle.reading.specs.Answer.{Got, refused, found}
use Rattle.format.specs.Types.{FbType, TypeTables}
use Rattle.format.specs.Debug.{Tables}
use Rattle.format.specs.Record.{debug_counts}
use Rattle.format.specs.Load.{Loaded}
use Rattle.entry_lines.specs.Lines.{task_line, program_line, fb_type_line, field_line, array_line, user_fb_line, constant_line, function_line, line_line}
use Rattle.listing.specs.Lines.{container_line, debug_line, end_line, refused_line}

-- a line for each entry
unfoldable pub each : {A : Type 0} → (A → List ℕ) → List A → List ℕ
each line_of [] = []
each line_of (a ∷ xs) = line_of a ++ each line_of xs

-- the same with indices, from i on
unfoldable pub indexed_from : {A : Type 0} → ℕ → (ℕ → A → List ℕ) → List A → List ℕ
indexed_from i line_of [] = []
indexed_from i line_of (a ∷ xs) = line_of i a ++ indexed_from (suc i) line_of xs

-- an FB type is followed by its fields
abbrev pub fb_type_lines : FbType → List ℕ
fb_type_lines b = fb_type_line (record { id = b.id; field_count = length b.fields }) ++ each field_line b.fields

-- a file without types is listed as one with empty types
abbrev pub type_lines : Option TypeTables → List ℕ
type_lines none = []
type_lines (some t) = each fb_type_lines t.fb_types ++ indexed_from 0 array_line t.arrays ++ each user_fb_line t.user_fbs

abbrev pub debug_lines : Option (Tables (List ℕ)) → List ℕ
debug_lines none = debug_line none
debug_lines (some t) = debug_line (debug_counts (some t)) ++ each line_line t.lines

abbrev pub listing_of : Got Loaded → List ℕ
listing_of (refused f) = refused_line f
listing_of (found l) =
    container_line l.header
    ++ each task_line l.tasks.tasks
    ++ each program_line l.tasks.programs
    ++ type_lines l.types
    ++ indexed_from 0 constant_line l.constants
    ++ each function_line l.code.functions
    ++ debug_lines l.debug
    ++ end_line
