-- The header: 256 bytes at fixed places (document 01, "Reading", 2).
use Rattle.std.specs.Prelude.{ℕ, ◌+◌, ◌-◌, ◌*◌, ◌/◌, ◌%◌, Bool, List, leb, eqb, length}
use Rattle.reading.specs.Fault.{short_input}
use Rattle.reading.specs.Numbers.{le_at}
use Rattle.reading.specs.Answer.{Got, found, ◌>>◌, need}
use Rattle.format.specs.Faults.{invalid_magic, unsupported_version}
use Rattle.format.specs.Parts.{header_size, hash_size, part, Place}

-- the seven pairs of offset and size
pub record Directory : Type 0 where
  pub signature : Place
  pub debug_signature : Place
  pub types : Place
  pub tasks : Place
  pub constants : Place
  pub code : Place
  pub debug : Place

-- the runtime numbers
pub record Runtime : Type 0 where
  pub max_stack_depth : ℕ
  pub max_call_depth : ℕ
  pub variables : ℕ
  pub data_region_bytes : ℕ
  pub temp_buffers : ℕ
  pub max_temp_buffer_bytes : ℕ
  pub functions : ℕ
  pub fb_types : ℕ
  pub input_image_bytes : ℕ
  pub output_image_bytes : ℕ
  pub memory_image_bytes : ℕ

pub record Header : Type 0 where
  pub magic : ℕ
  pub version : ℕ
  pub profile : ℕ
  pub flags : ℕ
  pub content_hash : List ℕ
  pub reserved_hash : List ℕ
  pub debug_hash : List ℕ
  pub layout_hash : List ℕ
  pub directory : Directory
  pub runtime : Runtime
  pub reserved : List ℕ

-- What the first 256 bytes of a file hold; document 01's numbers

-- a pair: offset 4, size 4
abbrev pub place_at : List ℕ → ℕ → Place
place_at f at = record { offset = le_at 4 f at; size = le_at 4 f (at + 4) }

unfoldable pub directory_of : List ℕ → Directory
directory_of f =
    record {
      signature = place_at f 136;
      debug_signature = place_at f 144;
      types = place_at f 152;
      tasks = place_at f 160;
      constants = place_at f 168;
      code = place_at f 176;
      debug = place_at f 184;
    }

unfoldable pub runtime_of : List ℕ → Runtime
runtime_of f =
    record {
      max_stack_depth = le_at 2 f 192;
      max_call_depth = le_at 2 f 194;
      variables = le_at 2 f 196;
      data_region_bytes = le_at 4 f 198;
      temp_buffers = le_at 2 f 202;
      max_temp_buffer_bytes = le_at 4 f 204;
      functions = le_at 2 f 208;
      fb_types = le_at 2 f 210;
      input_image_bytes = le_at 2 f 212;
      output_image_bytes = le_at 2 f 214;
      memory_image_bytes = le_at 2 f 216;
    }

abbrev pub fields_of : List ℕ → Header
fields_of f =
    record {
      magic = le_at 4 f 0;
      version = le_at 2 f 4;
      profile = le_at 1 f 6;
      flags = le_at 1 f 7;
      content_hash = part 8 hash_size f;
      reserved_hash = part 40 hash_size f;
      debug_hash = part 72 hash_size f;
      layout_hash = part 104 hash_size f;
      directory = directory_of f;
      runtime = runtime_of f;
      reserved = part 218 38 f;
    }

-- Reading the header: 1, 2, 3 in this order

unfoldable pub header_of : List ℕ → Got Header
header_of f = do
  need (leb header_size (length f)) short_input
  need (eqb (le_at 4 f 0) 0x49504C43) invalid_magic
  need (eqb (le_at 2 f 4) 4) unsupported_version
  found (fields_of f)

-- Flags

-- 0x04, types
abbrev pub types_flag : ℕ → Bool
types_flag flags = eqb (flags / 4 % 2) 1

-- bit 0x02, debug, cleared
abbrev pub without_debug_bit : ℕ → ℕ
without_debug_bit flags = flags - 2 * (flags / 2 % 2)
