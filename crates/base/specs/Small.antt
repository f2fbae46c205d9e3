-- The small enumerations: the numbers of their variants, and the answer for a byte.
use Rattle.std.specs.Prelude.{◌≡◌, ℕ, ◌+◌, ◌*◌, Bool, true, false, ◌||◌, cond, leb, eqb, Result, Ok, Err}
use Rattle.std.specs.Prelude as std
use Rattle.std.proofs.Math.Option.{Option, none, some}
use Rattle.reading.specs.Answer.{Got, found, ◌>>◌, need}
use Rattle.format.specs.Faults.{invalid_task_type, invalid_field_type, invalid_constant_type}
use Rattle.base.specs.Answers.{got_from}
use Rattle.base.specs.declared.char_width.CharWidth.{CharWidth}
use Rattle.base.specs.declared.char_width.CharWidth.TheVariants as width
use Rattle.base.specs.declared.char_width.InvalidCharWidth.{InvalidCharWidth}
use Rattle.base.specs.declared.error.ContainerError.{ContainerError}
use Rattle.base.specs.declared.const_type.ConstType.{ConstType}
use Rattle.base.specs.declared.const_type.ConstType.TheVariants as const
use Rattle.base.specs.declared.task_type.TaskType.{TaskType}
use Rattle.base.specs.declared.task_type.TaskType.TheVariants as task
use Rattle.base.specs.declared.field_type.FieldType.{FieldType}
use Rattle.base.specs.declared.field_type.FieldType.TheVariants as field

-- Character widths: 1 and 2

abbrev pub byte_width : CharWidth → ℕ
byte_width width.Narrow = 1
byte_width width.Wide = 2

abbrev pub is_wide : CharWidth → Bool
is_wide width.Narrow = false
is_wide width.Wide = true

-- a width, or a number that is none
pub data Width : Type 0 where
  is : ℕ → Width
  is_none : ℕ → Width

abbrev pub char_width_of_byte : ℕ → Width
char_width_of_byte v = cond (eqb v 1 || eqb v 2) (is v) (is_none v)

-- what `CharWidth::try_from` answers for a byte
abbrev pub char_width_from : Result CharWidth InvalidCharWidth → Width
char_width_from (Err e) = is_none e.0
char_width_from (Ok w) = is (byte_width w)

abbrev pub WidthOf : ℕ → Result CharWidth InvalidCharWidth → Type 0
WidthOf v answer = char_width_from answer ≡ char_width_of_byte v

-- the bytes of a string of `max_length` characters, with its header of 6
abbrev pub string_region_size : ℕ → CharWidth → ℕ
string_region_size max_length w = 6 + max_length * byte_width w

-- Constants: 0 to 7

abbrev pub const_type_number : ConstType → ℕ
const_type_number const.I32 = 0
const_type_number const.U32 = 1
const_type_number const.I64 = 2
const_type_number const.U64 = 3
const_type_number const.F32 = 4
const_type_number const.F64 = 5
const_type_number const.Str = 6
const_type_number const.WStr = 7

abbrev pub const_type_of : ℕ → Got ℕ
const_type_of v = need (leb v 7) (invalid_constant_type v) >> found v

-- what `ConstType::try_from` answers for a byte
abbrev pub ConstTypeOf : ℕ → Result ConstType ContainerError → Type 0
ConstTypeOf v answer = got_from const_type_number answer ≡ const_type_of v

-- 1 for Str, 2 for WStr, none for the others
abbrev pub maybe_width : std.Option CharWidth → Option ℕ
maybe_width std.None = none
maybe_width (std.Some w) = some (byte_width w)

abbrev pub width_of_type : ℕ → Option ℕ
width_of_type kind = cond (eqb kind 6) (some 1) (cond (eqb kind 7) (some 2) none)

-- Tasks: 0 to 2

abbrev pub task_type_number : TaskType → ℕ
task_type_number task.Cyclic = 0
task_type_number task.Event = 1
task_type_number task.Freewheeling = 2

abbrev pub task_type_of : ℕ → Got ℕ
task_type_of v = need (leb v 2) (invalid_task_type v) >> found v

-- what `TaskType::try_from` answers for a byte
abbrev pub TaskTypeOf : ℕ → Result TaskType ContainerError → Type 0
TaskTypeOf v answer = got_from task_type_number answer ≡ task_type_of v

-- FB fields: 0 to 10

abbrev pub field_type_number : FieldType → ℕ
field_type_number field.I32 = 0
field_type_number field.U32 = 1
field_type_number field.I64 = 2
field_type_number field.U64 = 3
field_type_number field.F32 = 4
field_type_number field.F64 = 5
field_type_number field.String = 6
field_type_number field.WString = 7
field_type_number field.FbInstance = 8
field_type_number field.Time = 9
field_type_number field.Slot = 10

abbrev pub field_type_of : ℕ → Got ℕ
field_type_of v = need (leb v 10) (invalid_field_type v) >> found v

-- what `FieldType::try_from` answers for a byte
abbrev pub FieldTypeOf : ℕ → Result FieldType ContainerError → Type 0
FieldTypeOf v answer = got_from field_type_number answer ≡ field_type_of v

-- the string type with this character width
abbrev pub string_type : CharWidth → ℕ
string_type width.Narrow = 6
string_type width.Wide = 7
