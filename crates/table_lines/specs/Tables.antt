-- The text of each table of a file, for any file and record: the lines of its entries (document 01, "Mill file M": "entries in file order"), and no
-- text if the section is absent or refused.
use Rattle.std.specs.Prelude.{ℕ, List, []}
use Rattle.reading.specs.Answer.{Got, refused, found}
use Rattle.format.specs.Parts.{by_bytes, by_place}
use Rattle.format.specs.Record.{Container}
use Rattle.format.specs.Lookups.{tasks_in, types_in, constants_in, code_in, debug_in}
use Rattle.entry_lines.specs.Lines.{task_line, program_line, array_line, user_fb_line, constant_line, function_line, line_line}
use Rattle.listing.specs.Listing.{each, indexed_from, fb_type_lines}

abbrev pub text_of : {A : Type 0} → Got A → (A → List ℕ) → List ℕ
text_of (refused e) lines = []
text_of (found a) lines = lines a

abbrev pub tasks_text : List ℕ → Container → List ℕ
tasks_text f r = text_of (tasks_in f r) λ t. each task_line t.tasks

abbrev pub programs_text : List ℕ → Container → List ℕ
programs_text f r = text_of (tasks_in f r) λ t. each program_line t.programs

-- an FB type is followed by its fields
abbrev pub fb_types_text : List ℕ → Container → List ℕ
fb_types_text f r = text_of (types_in f r) λ t. each fb_type_lines t.fb_types

abbrev pub arrays_text : List ℕ → Container → List ℕ
arrays_text f r = text_of (types_in f r) λ t. indexed_from 0 array_line t.arrays

abbrev pub user_fbs_text : List ℕ → Container → List ℕ
user_fbs_text f r = text_of (types_in f r) λ t. each user_fb_line t.user_fbs

abbrev pub constants_text : List ℕ → Container → List ℕ
constants_text f r = text_of (constants_in (λ p. by_bytes) f r) λ cs. indexed_from 0 constant_line cs

abbrev pub functions_text : List ℕ → Container → List ℕ
functions_text f r = text_of (code_in f r) λ c. each function_line c.functions

-- "of the debug tables only lines are listed"
abbrev pub lines_text : List ℕ → Container → List ℕ
lines_text f r = text_of (debug_in by_place f r) λ t. each line_line t.lines
