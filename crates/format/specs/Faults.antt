-- The refusals of document 01's table ("Reading, in this order"): each with its number and the values that it names.
use Rattle.std.specs.Prelude.{ℕ, [], ◌∷◌}
use Rattle.reading.specs.Fault.{Fault, refusal}

-- 1, `short_input`, is defined with the reading algebra

abbrev pub invalid_magic : Fault
invalid_magic = refusal 2 []

abbrev pub unsupported_version : Fault
unsupported_version = refusal 3 []

abbrev pub section_size_mismatch : Fault
section_size_mismatch = refusal 4 []

abbrev pub content_hash_mismatch : Fault
content_hash_mismatch = refusal 5 []

abbrev pub invalid_task_type : ℕ → Fault
invalid_task_type kind = refusal 6 (kind ∷ [])

abbrev pub invalid_field_type : ℕ → Fault
invalid_field_type kind = refusal 7 (kind ∷ [])

abbrev pub invalid_array_stride : ℕ → ℕ → Fault
invalid_array_stride kind stride = refusal 8 (kind ∷ stride ∷ [])

abbrev pub invalid_constant_type : ℕ → Fault
invalid_constant_type kind = refusal 9 (kind ∷ [])

abbrev pub too_long : Fault
too_long = refusal 10 []

abbrev pub invalid_constant_index : ℕ → Fault
invalid_constant_index index = refusal 11 (index ∷ [])

abbrev pub no_function : Fault
no_function = refusal 12 []

abbrev pub no_line : Fault
no_line = refusal 13 []

abbrev pub unsorted_map : Fault
unsorted_map = refusal 14 []

abbrev pub no_debug : Fault
no_debug = refusal 15 []

abbrev pub no_array : Fault
no_array = refusal 16 []

abbrev pub size_overflow : Fault
size_overflow = refusal 17 []

abbrev pub no_entry : Fault
no_entry = refusal 29 []
