-- Slip 1's examples, by computing them.
use mathlib.Core.Path.{refl}
use mathlib.Core.List.{List}
use Prim.Native.Nat.{ℕ}
use Rattle.utf8.specs.Utf8.{valid_after, valid_up_to, sequence_at, utf8}
use Rattle.reading.specs.Numbers.{le}
use Rattle.reading.specs.Reader.{bytes}
use Rattle.format.specs.Parts.{is_inside}
use Rattle.format.specs.Header.{header_of, runtime_of, directory_of}
use Rattle.format.specs.Integrity.{section_in, content_fits, debug_hash_fits}
use Rattle.format.specs.Tasks as task
use Rattle.format.specs.Types as types
use Rattle.format.specs.Constants as pool
use Rattle.format.specs.Code as code
use Rattle.format.specs.Debug.{text, name, path, variable, function_name, source_file, enumeration, tag_of, size_of, kind_of, payload_of, rows_of, debug_tables}
use Rattle.format.specs.Load.{read_in, has_types, types_found, debug_of, debug_found, load}
use Rattle.requests.specs.BadPlace.{bad_place, bad_place_at, BadPlaceExamples, LoadedExample}

pub bad-place-examples : BadPlaceExamples
unfolding bad_place debug_tables rows_of bytes le payload_of tag_of size_of kind_of variable function_name source_file enumeration name path text utf8 valid_up_to valid_after sequence_at
bad-place-examples =
    record {
      latin-1 = refl;
      cut-sequence = refl;
      cut-name = refl;
      empty_name = refl;
      long_path = refl;
      value-name = refl;
      type-name = refl;
      replaced = refl;
      first-of-two = refl;
      missing-table = refl;
      missing-row = refl;
      other_tag = refl;
    }

pub loaded-example : (hash : List ℕ → List ℕ) → LoadedExample hash
unfolding load header_of runtime_of directory_of le bytes content_fits read_in section_in is_inside task.task_table task.task task.program types_found has_types types.type_tables types.fb_type types.array types.user_fb pool.constants pool.constant pool.kept_of code.code_of code.function debug_found debug_of debug_hash_fits bad_place_at bad_place debug_tables rows_of payload_of tag_of size_of kind_of function_name name text utf8 valid_up_to valid_after sequence_at
loaded-example hash = record { no-debug = refl; place = refl }
