-- The numbers of each answer: a refusal's number and values (document 01, "A refusal carries its number and the value named, nothing else"), or 0 and the
-- answer's fields, in the order of the file. A string, a name, a path and bytecode are their place in the file and their length.
use Rattle.std.specs.Prelude.{ℕ, ◌-◌, List, [], ◌∷◌, ℤ, pos, negsuc}
use Rattle.reading.specs.Fault.{Fault}
use Rattle.reading.specs.Answer.{Got, refused, found}
use Rattle.base.specs.Error.{refusal_number, refusal_values}
use Rattle.reading.specs.Numbers.{le, le_at}
use Rattle.format.specs.Parts.{Place}
use Rattle.format.specs.Tasks.{Task, Program}
use Rattle.format.specs.Types.{Field, Array, UserFb}
use Rattle.format.specs.Constants.{Constant, Kept, number, string}
use Rattle.format.specs.Code.{Function}
use Rattle.format.specs.Debug.{Line, Variable, FunctionName, StringLayout, SourceFile}
use Rattle.format.specs.Lookups.{FbTypeHead, EnumerationHead}

abbrev pub refusal_numbers : Fault → List ℕ
refusal_numbers f = refusal_number f ∷ refusal_values f

-- an answer whose numbers `list` gives
abbrev pub answer_numbers : {A : Type 0} → (A → List ℕ) → Got A → List ℕ
answer_numbers list (refused f) = refusal_numbers f
answer_numbers list (found a) = 0 ∷ list a

abbrev pub value_numbers : ℕ → List ℕ
value_numbers n = n ∷ []

-- place in the file, length
abbrev pub part_numbers : Place → List ℕ
part_numbers p = p.offset ∷ p.size ∷ []

-- a signed number as the 64 bits of its two's complement: one below zero is 2 ^ 64 more (`negsuc n` is -1 - n)
abbrev pub bits_of : ℤ → ℕ
bits_of (pos n) = n
bits_of (negsuc n) = 18446744073709551615 - n

abbrev pub signed_numbers : ℤ → List ℕ
signed_numbers z = bits_of z ∷ []

-- id, priority, type, flags, interval, single variable, watchdog, input and output image offset, the 4 reserved bytes as one number, low byte first
abbrev pub task_numbers : Task → List ℕ
task_numbers t =
    t.id ∷ t.priority ∷ t.kind ∷ t.flags ∷ t.interval ∷ t.single_variable ∷ t.watchdog ∷ t.input_image_offset ∷ t.output_image_offset ∷ le t.reserved ∷ []

-- the eight fields of `ProgramInstanceEntry`
abbrev pub program_numbers : Program → List ℕ
program_numbers p =
    p.instance ∷ p.task ∷ p.entry_function ∷ p.variable_offset ∷ p.variable_count ∷ p.fb_instance_offset ∷ p.fb_instance_count ∷ p.init_function ∷ []

-- id, field count
abbrev pub fb_type_numbers : FbTypeHead → List ℕ
fb_type_numbers b = b.id ∷ b.field_count ∷ []

-- type, extra
abbrev pub field_numbers : Field → List ℕ
field_numbers f = f.kind ∷ f.extra ∷ []

-- type, elements, extra, stride
abbrev pub array_numbers : Array → List ℕ
array_numbers a = a.kind ∷ a.elements ∷ a.extra ∷ a.stride ∷ []

-- type id, function, variable offset, fields
abbrev pub user_fb_numbers : UserFb → List ℕ
user_fb_numbers u = u.id ∷ u.function ∷ u.variable_offset ∷ u.field_count ∷ []

-- type, then for a number its eight kept bytes as one number, low byte first, and for a string its place and length
abbrev pub kept_numbers : Kept Place → List ℕ
kept_numbers (number b) = le b ∷ []
kept_numbers (string p) = p.offset ∷ p.size ∷ []

abbrev pub constant_numbers : Constant Place → List ℕ
constant_numbers c = c.kind ∷ kept_numbers c.kept

-- the stored id, offset, length, stack, locals, parameters
abbrev pub function_numbers : Function → List ℕ
function_numbers f = f.id ∷ f.offset ∷ f.size ∷ f.max_stack_depth ∷ f.locals ∷ f.parameters ∷ []

-- function, offset, file, line, column
abbrev pub line_numbers : Line → List ℕ
line_numbers l = l.function ∷ l.offset ∷ l.file ∷ l.line ∷ l.column ∷ []

-- index, function, section, type, name, type name
abbrev pub variable_numbers : Variable Place → List ℕ
variable_numbers v =
    v.index ∷ v.function ∷ v.section ∷ v.type_tag ∷ v.named.offset ∷ v.named.size ∷ v.type_name.offset ∷ v.type_name.size ∷ []

-- id, name
abbrev pub function_name_numbers : FunctionName Place → List ℕ
function_name_numbers f = f.id ∷ f.named.offset ∷ f.named.size ∷ []

-- variable, data offset, length
abbrev pub layout_numbers : StringLayout → List ℕ
layout_numbers s = s.variable ∷ s.data_offset ∷ s.max_length ∷ []

-- path, then the hash's 32 bytes as four numbers of eight bytes each, low byte first
abbrev pub source_numbers : SourceFile Place → List ℕ
source_numbers s = s.located.offset ∷ s.located.size ∷ le_at 8 s.hash 0 ∷ le_at 8 s.hash 8 ∷ le_at 8 s.hash 16 ∷ le_at 8 s.hash 24 ∷ []

-- name, value count
abbrev pub enumeration_numbers : EnumerationHead Place → List ℕ
enumeration_numbers e = e.named.offset ∷ e.named.size ∷ e.value_count ∷ []
