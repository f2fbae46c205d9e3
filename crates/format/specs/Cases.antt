-- Document 01's starred cases, as one claim about the definitions, and its "Wrong turns".
use Rattle.std.specs.Prelude.{ℕ, ◌≡◌, true, false, List, [], ◌∷◌, ℤ, pos}
use Rattle.std.proofs.Math.Option.{some}
use Rattle.utf8.specs.Utf8.{utf8}
use Rattle.reading.specs.Answer.{Got, refused, found, ◌>>=◌, item_of}
use Rattle.format.specs.Faults.{invalid_array_stride, invalid_constant_index, invalid_constant_type, size_overflow, no_line, no_entry}
use Rattle.format.specs.Parts.{by_bytes}
use Rattle.format.specs.Types.{Array, array, natural_stride, type_tables}
use Rattle.format.specs.Constants.{constants}
use Rattle.format.specs.Debug.{no_tables}
use Rattle.format.specs.Load.{debug_of}
use Rattle.format.specs.Record.{read_from}
use Rattle.format.specs.Lookups.{byte_size, run_answers_of, run_answers}
use Rattle.format.specs.Examples.{lines, mill, mill_with, lines_twice, line_at, last_line}

-- an array of type 0 with so many elements, at stride 8
abbrev pub slots : ℕ → Array
slots elements = record { kind = 0; elements = elements; extra = 0; stride = 8 }

-- the entry of a string array of extra 10 with a stride below 256
abbrev pub string_array : ℕ → List ℕ
string_array stride = 6 ∷ 0 ∷ 3 ∷ 0 ∷ 0 ∷ 0 ∷ 10 ∷ 0 ∷ stride ∷ 0 ∷ 0 ∷ 0 ∷ []

-- constants 01 00 00 01 02 00 0E 01, with the size as said
abbrev pub pool : ℕ → List ℕ
pool size = 1 ∷ 0 ∷ 0 ∷ 1 ∷ size ∷ 0 ∷ 0x0E ∷ 0x01 ∷ []

abbrev pub i32_in : List ℕ → ℕ → Got ℤ
i32_in section i = (run_answers_of by_bytes (refused no_entry) (refused no_entry) (item_of (constants by_bytes section)) (refused no_entry)).i32 i

pub record Cases (hash : List ℕ → List ℕ) : Type 0 where
  pub strides : (natural_stride 6 10 ≡ 16) × (natural_stride 7 10 ≡ 26) × ((extra : ℕ) → natural_stride 0 extra ≡ 8) × (natural_stride 7 65535 ≡ 131076)
  pub stride-15 : item_of (array (string_array 15)) ≡ refused (invalid_array_stride 6 15)
  pub stride-17 : item_of (array (string_array 17)) ≡ found (record { kind = 6; elements = 3; extra = 10; stride = 17 })
  pub index-0 : i32_in (pool 2) 0 ≡ found (pos 270)
  pub index-1 : i32_in (pool 2) 1 ≡ refused (invalid_constant_index 1)
  pub size-9 : item_of (constants by_bytes (pool 9)) ≡ refused (invalid_constant_type 0)
  pub no-user-fbs : item_of (type_tables (0 ∷ 0 ∷ 0 ∷ 0 ∷ 7 ∷ [])) ≡ found (record { fb_types = []; arrays = []; user_fbs = [] })
  pub largest : byte_size (slots 536870911) ≡ found 4294967288
  pub too_large : byte_size (slots 536870912) ≡ refused size_overflow
  pub line-1 : line_at hash mill 0 2 ≡ found (record { function = 0; offset = 0; file = 0; line = 1; column = 1 })
  pub column-9 : line_at hash mill 0 3 ≡ found last_line
  pub function-1 : (offset : ℕ) → line_at hash mill 1 offset ≡ refused no_line
  pub texts : (utf8 (0xED ∷ 0xA0 ∷ 0x80 ∷ []) ≡ false) × (utf8 (0xC0 ∷ 0x80 ∷ []) ≡ false) × (utf8 (0xEF ∷ 0xBF ∷ 0xBF ∷ []) ≡ true)
  pub empty-debug : debug_of (0 ∷ 0 ∷ []) ≡ some no_tables
  pub empty-line : (function offset : ℕ) → line_at hash (mill_with 6 0 (0 ∷ 0 ∷ [])) function offset ≡ refused no_line

-- what each of the four wrong turns would get wrong
pub record WrongTurns (hash : List ℕ → List ℕ) : Type 0 where
  -- M with the debug flag clear still has its lines
  pub flag-not-asked : line_at hash (mill_with 4 0 lines) 0 3 ≡ found last_line
  -- M's lines behind an empty table of lines whose row says 7 bytes: that table has the two bytes of its count
  pub row-size-ignored : line_at hash (mill_with 6 0 lines_twice) 0 3 ≡ found last_line
  -- M with 7 as the stored id of its function: the function is found at 0
  pub stored-id-ignored : (read_from hash (mill_with 6 7 lines) >>= λ r. (run_answers (mill_with 6 7 lines) r).function 0)
      ≡ found (record { id = 7; offset = 0; size = 5; max_stack_depth = 8; locals = 2; parameters = 0 })
  -- of M's two lines at offset 3 the last is answered
  pub last-of-equals : line_at hash mill 0 3 ≡ found last_line
