-- The lister's lines for the entries of tables (document 01, "Mill file M": "entries in file order, fields in file order without reserved ones"):
-- a word for the kind of entry, then its fields. "Numbers are decimal, kept bytes hexadecimal."
use Rattle.std.specs.Prelude.{ℕ, List, [], ◌∷◌}
use Rattle.reading.specs.Answer.{Got, refused, found}
use Rattle.format.specs.Tasks.{Task, Program}
use Rattle.format.specs.Types.{Field, Array, UserFb}
use Rattle.format.specs.Constants.{Kept, number, string, Constant}
use Rattle.format.specs.Code.{Function}
use Rattle.format.specs.Debug.{Line}
use Rattle.format.specs.Lookups.{FbTypeHead, byte_size}
use Rattle.text.specs.Text.{ascii, line, dash_line, bytes_line}

abbrev pub task_line : Task → List ℕ
task_line t =
    line (ascii "task")
    (t.id ∷ t.priority ∷ t.kind ∷ t.flags ∷ t.interval ∷ t.single_variable ∷ t.watchdog ∷ t.input_image_offset ∷ t.output_image_offset ∷ [])

abbrev pub program_line : Program → List ℕ
program_line p =
    line (ascii "program")
    (p.instance ∷ p.task ∷ p.entry_function ∷ p.variable_offset ∷ p.variable_count ∷ p.fb_instance_offset ∷ p.fb_instance_count ∷ p.init_function ∷ [])

-- id, field count
abbrev pub fb_type_line : FbTypeHead → List ℕ
fb_type_line b = line (ascii "fbtype") (b.id ∷ b.field_count ∷ [])

-- type, extra
abbrev pub field_line : Field → List ℕ
field_line f = line (ascii "field") (f.kind ∷ f.extra ∷ [])

-- "An array line has index, type, elements, extra, stride, byte size (`-` on overflow)."
abbrev pub sized_line : ℕ → Array → Got ℕ → List ℕ
sized_line i a (refused f) = dash_line (ascii "array") (i ∷ a.kind ∷ a.elements ∷ a.extra ∷ a.stride ∷ [])
sized_line i a (found size) = line (ascii "array") (i ∷ a.kind ∷ a.elements ∷ a.extra ∷ a.stride ∷ size ∷ [])

abbrev pub array_line : ℕ → Array → List ℕ
array_line i a = sized_line i a (byte_size a)

-- four fields
abbrev pub user_fb_line : UserFb → List ℕ
user_fb_line u = line (ascii "userfb") (u.id ∷ u.function ∷ u.variable_offset ∷ u.field_count ∷ [])

-- "A constant line has index, type, kept bytes (`-` if none)."
abbrev pub kept_bytes : Kept (List ℕ) → List ℕ
kept_bytes (number b) = b
kept_bytes (string b) = b

abbrev pub constant_line : ℕ → Constant (List ℕ) → List ℕ
constant_line i c = bytes_line (ascii "constant") (i ∷ c.kind ∷ []) (kept_bytes c.kept)

-- the stored id comes first
abbrev pub function_line : Function → List ℕ
function_line f = line (ascii "function") (f.id ∷ f.offset ∷ f.size ∷ f.max_stack_depth ∷ f.locals ∷ f.parameters ∷ [])

abbrev pub line_line : Line → List ℕ
line_line l = line (ascii "line") (l.function ∷ l.offset ∷ l.file ∷ l.line ∷ l.column ∷ [])
