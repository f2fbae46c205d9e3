-- What the code's entries and answers mean.
use Rattle.std.specs.Prelude.{ℕ, ◌+◌, cond, Option, Some, None, List, eqb, length}
use Rattle.reading.specs.Reader.{Reader, ◌>>=◌, give}
use Rattle.reading.specs.Answer.{Got, need}
use Rattle.reading.specs.declared.Table.{Table}
use Rattle.format.specs.Faults.{invalid_array_stride}
use Rattle.format.specs.Types.{Field, fb_type, Array, stride_fits, UserFb}
use Rattle.format.specs.Lookups.{FbTypeHead, fb_type_head_of}
use Rattle.base.specs.Small.{field_type_number}
use Rattle.base.specs.declared.char_width.CharWidth.{CharWidth}
use Rattle.base.specs.declared.char_width.CharWidth.TheVariants as width
use Rattle.type_entries.specs.Starts.{count_size}
use Rattle.type_entries.specs.declared.FieldEntry.{FieldEntry}
use Rattle.type_entries.specs.declared.FbTypeDescriptor.{FbTypeDescriptor}
use Rattle.type_entries.specs.declared.ArrayDescriptor.{ArrayDescriptor}
use Rattle.type_entries.specs.declared.UserFbDescriptor.{UserFbDescriptor}

-- Fields

abbrev pub field_in : FieldEntry → Field
field_in f = record { kind = field_type_number f.field_type; extra = f.field_extra }

-- FB types: the code reads an FB type with all its fields and keeps the head

abbrev pub fb_type_head_in : FbTypeDescriptor → FbTypeHead
fb_type_head_in d = record { id = d.type_id.0; field_count = d.num_fields }

abbrev pub fb_type_head : Reader FbTypeHead
fb_type_head = do
  b ← fb_type
  give (fb_type_head_of b)

-- Arrays

abbrev pub array_in : ArrayDescriptor → Array
array_in a = record { kind = a.element_type; elements = a.total_elements; extra = a.element_extra; stride = a.element_stride }

-- the width of the characters of a string type, none for any other
abbrev pub string_width : ℕ → Option CharWidth
string_width kind = cond (eqb kind 6) (Some width.Narrow) (cond (eqb kind 7) (Some width.Wide) None)

abbrev pub stride_checked : Array → Got (Unit {0})
stride_checked a = need (stride_fits a.kind a.extra a.stride) (invalid_array_stride a.kind a.stride)

-- User FBs

abbrev pub user_fb_in : UserFbDescriptor → UserFb
user_fb_in u = record { id = u.type_id.0; function = u.function_id.0; variable_offset = u.var_offset; field_count = u.num_fields }

-- Tables with their counts in front: the code reads all entries and keeps where they start, behind the count at the place `at`, and their number

abbrev pub table_at : {A : Type 0} → ℕ → Reader (List A) → Reader Table
table_at at r = do
  xs ← r
  give (record { at = at + count_size; count = length xs })
