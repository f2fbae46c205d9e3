-- Where the entries of the section's tables start: each table's behind its count and the tables before it (document 01, "Sections", Types).
use Rattle.std.specs.Prelude.{ℕ, ◌+◌, ◌*◌, ◌-◌, ◌^◌, min, List, [], ◌∷◌, length}
use Rattle.reading.specs.Answer.{Got, found, ◌>>=◌, item_of}
use Rattle.reading.specs.declared.Table.{Table}
use Rattle.format.specs.Types.{FbType, TypeTables, type_tables}
use Rattle.format.specs.Lookups.{FbTypeHead}
use Rattle.type_entries.specs.declared.Tables.{Tables}

-- Sizes in bytes: a count, a field, an FB type without its fields, an array, a user FB

abbrev pub count_size : ℕ
count_size = 2

abbrev pub field_entry_size : ℕ
field_entry_size = 4

abbrev pub fb_type_head_size : ℕ
fb_type_head_size = 4

abbrev pub array_descriptor_size : ℕ
array_descriptor_size = 12

abbrev pub user_fb_descriptor_size : ℕ
user_fb_descriptor_size = 8

-- the bytes of an FB type, and of several
abbrev pub fb_type_size : FbType → ℕ
fb_type_size b = fb_type_head_size + field_entry_size * length b.fields

abbrev pub fb_types_size : List FbType → ℕ
fb_types_size [] = 0
fb_types_size (b ∷ bs) = fb_type_size b + fb_types_size bs

abbrev pub fb_types_start : TypeTables → Table
fb_types_start t = record { at = count_size; count = length t.fb_types }

abbrev pub arrays_start : TypeTables → Table
arrays_start t = record { at = 2 * count_size + fb_types_size t.fb_types; count = length t.arrays }

-- also where too few bytes for a count are left behind the arrays: the table is then empty ("Fewer than two bytes left after the arrays means zero user FBs")
abbrev pub user_fbs_start : TypeTables → Table
user_fbs_start t = record { at = 3 * count_size + fb_types_size t.fb_types + array_descriptor_size * length t.arrays; count = length t.user_fbs }

-- the fields of an FB type stand behind its head
abbrev pub fields_start : ℕ → FbType → Table
fields_start at b = record { at = at + fb_type_head_size; count = length b.fields }

-- the same by its head
abbrev pub head_fields : ℕ → FbTypeHead → Table
head_fields at h = record { at = at + fb_type_head_size; count = h.field_count }

-- the same at any number `at`: where the sum does not fit, they stand at the highest number, behind every section
abbrev pub fields_anywhere : ℕ → FbTypeHead → Table
fields_anywhere at h = record { at = min (at + fb_type_head_size) (2 ^ 64 - 1); count = h.field_count }

abbrev pub type_starts_of : TypeTables → Tables
type_starts_of t = record { fb_types = fb_types_start t; arrays = arrays_start t; user_fbs = user_fbs_start t }

-- what the section's reader answers: its refusal, or these places
abbrev pub type_starts_in : List ℕ → Got Tables
type_starts_in s = item_of (type_tables s) >>= λ t. found (type_starts_of t)
