-- The type section (document 01, "Sections", Types).
use Rattle.std.specs.Prelude.{ℕ, ◌+◌, ◌*◌, Bool, ◌||◌, cond, List, leb, eqb}
use Rattle.reading.specs.Reader.{Reader, ◌>>=◌, ◌>>◌, give, check, u8, u16, u32, many, counted, counted_or_none}
use Rattle.format.specs.Faults.{invalid_field_type, invalid_array_stride}

-- FB types

pub record Field : Type 0 where
  pub kind : ℕ
  pub extra : ℕ

-- a field: type 1, reserved 1, extra 2
unfoldable pub field : Reader Field
field = do
  kind ← u8
  reserved ← u8
  extra ← u16
  check (leb kind 10) (invalid_field_type kind)
  give (record { kind = kind; extra = extra })

pub record FbType : Type 0 where
  pub id : ℕ
  pub fields : List Field

-- an FB type: id 2, field count 1, reserved 1, then the fields
unfoldable pub fb_type : Reader FbType
fb_type = do
  id ← u16
  field_count ← u8
  reserved ← u8
  fields ← many field_count field
  give (record { id = id; fields = fields })

-- Arrays

pub record Array : Type 0 where
  pub kind : ℕ
  pub elements : ℕ
  pub extra : ℕ
  pub stride : ℕ

-- types 6 and 7 are strings and wide strings
abbrev pub is_string : ℕ → Bool
is_string kind = eqb kind 6 || eqb kind 7

-- document 01's "natural stride"
abbrev pub natural_stride : ℕ → ℕ → ℕ
natural_stride kind extra = cond (eqb kind 6) (6 + extra) (cond (eqb kind 7) (6 + 2 * extra) 8)

-- document 01: "Strings may have more, others exactly that"
abbrev pub stride_fits : ℕ → ℕ → ℕ → Bool
stride_fits kind extra stride = cond (is_string kind) (leb (natural_stride kind extra) stride) (eqb stride (natural_stride kind extra))

-- entry 12: element type 1, reserved 1, elements 4, extra 2, stride 4
unfoldable pub array : Reader Array
array = do
  kind ← u8
  reserved ← u8
  elements ← u32
  extra ← u16
  stride ← u32
  check (stride_fits kind extra stride) (invalid_array_stride kind stride)
  give (record { kind = kind; elements = elements; extra = extra; stride = stride })

-- bytes per character of a string element, as in the Rust: 2 for wide strings, 1 for any other type
abbrev pub element_char_width : Array → ℕ
element_char_width a = cond (eqb a.kind 7) 2 1

-- User FBs

pub record UserFb : Type 0 where
  pub id : ℕ
  pub function : ℕ
  pub variable_offset : ℕ
  pub field_count : ℕ

-- entry 8: type id 2, function 2, variable offset 2, fields 1, reserved 1
unfoldable pub user_fb : Reader UserFb
user_fb = do
  id ← u16
  function ← u16
  variable_offset ← u16
  field_count ← u8
  reserved ← u8
  give (record { id = id; function = function; variable_offset = variable_offset; field_count = field_count })

-- The section; document 01: "Fewer than two bytes left after the arrays means zero user FBs"

pub record TypeTables : Type 0 where
  pub fb_types : List FbType
  pub arrays : List Array
  pub user_fbs : List UserFb

unfoldable pub type_tables : Reader TypeTables
type_tables = do
  fb_types ← counted fb_type
  arrays ← counted array
  user_fbs ← counted_or_none user_fb
  give (record { fb_types = fb_types; arrays = arrays; user_fbs = user_fbs })
