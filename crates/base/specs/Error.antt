-- The code's refusals, each as its row of document 01's table.
use Rattle.std.specs.Prelude.{ℕ, List, [], ◌∷◌}
use Rattle.reading.specs.Fault.{Fault, refusal, bad_text, short_input}
use Rattle.format.specs.Faults as row
use Rattle.base.specs.declared.error.ContainerError.{ContainerError}
use Rattle.base.specs.declared.error.ContainerError.TheVariants as e
use Rattle.base.specs.declared.error.Values.{Values}

abbrev pub fault_of : ContainerError → Fault
fault_of e.ShortInput = short_input
fault_of e.InvalidMagic = row.invalid_magic
fault_of e.UnsupportedVersion = row.unsupported_version
fault_of e.SectionSizeMismatch = row.section_size_mismatch
fault_of e.ContentHashMismatch = row.content_hash_mismatch
fault_of (e.InvalidTaskType kind) = row.invalid_task_type kind
fault_of (e.InvalidFieldType kind) = row.invalid_field_type kind
fault_of (e.InvalidArrayStride kind stride) = row.invalid_array_stride kind stride
fault_of (e.InvalidConstantType kind) = row.invalid_constant_type kind
fault_of e.TooLong = row.too_long
fault_of (e.InvalidConstantIndex index) = row.invalid_constant_index index.0
fault_of e.NoFunction = row.no_function
fault_of e.NoLine = row.no_line
fault_of e.UnsortedMap = row.unsorted_map
fault_of e.NoDebug = row.no_debug
fault_of e.NoArray = row.no_array
fault_of e.SizeOverflow = row.size_overflow
fault_of e.NoEntry = row.no_entry

-- a refusal's number and values; a bad text has neither, and no `ContainerError` is one
abbrev pub refusal_number : Fault → ℕ
refusal_number (refusal n vs) = n
refusal_number (bad_text behind) = 0

abbrev pub refusal_values : Fault → List ℕ
refusal_values (refusal n vs) = vs
refusal_values (bad_text behind) = []

-- the values as the code keeps them: their count, each of them, then zeros. No refusal names more than two
abbrev pub kept_values : List ℕ → Values
kept_values [] = record { count = 0; first = 0; second = 0 }
kept_values (v ∷ []) = record { count = 1; first = v; second = 0 }
kept_values (v ∷ w ∷ vs) = record { count = 2; first = v; second = w }

abbrev pub values_of : Fault → Values
values_of f = kept_values (refusal_values f)
