-- The order and width of every field, shown by each reader on bytes that all differ (document 01, "Reading" 2 and "Sections"); and the counts of M.
use Rattle.std.specs.Prelude.{ℕ, zero, suc, ◌+◌, ◌*◌, ◌-◌, ◌≤◌, ◌≡◌, false, List, [], ◌∷◌, ◌++◌, pos, negsuc, length, replicate}
use Rattle.std.proofs.Math.Option.{some}
use Rattle.reading.specs.Reader.{got}
use Rattle.reading.specs.Answer.{found, refused, ◌>>=◌}
use Rattle.format.specs.Faults.{unsorted_map, no_line}
use Rattle.format.specs.Parts.{limit, hash_limit, header_size, by_bytes}
use Rattle.format.specs.Header.{Directory, fields_of, directory_of}
use Rattle.format.specs.Integrity.{masked_header, hashed_string}
use Rattle.format.specs.Tasks as tasks
use Rattle.format.specs.Types as types
use Rattle.format.specs.Constants as pool
use Rattle.format.specs.Code as code
use Rattle.format.specs.Debug as debug
use Rattle.format.specs.Lines.{line_for}
use Rattle.format.specs.Load.{debug_of}
use Rattle.format.specs.Record.{read_from}
use Rattle.format.specs.Examples as example

-- `n` bytes from `from` on, each one more than the one before
abbrev pub rising : ℕ → ℕ → List ℕ
rising zero from = []
rising (suc n) from = from ∷ rising n (suc from)

-- a line at an offset of a function
abbrev pub line_of : ℕ → ℕ → debug.Line
line_of function offset = record { function = function; offset = offset; file = 0; line = 0; column = 0 }

pub record Layouts : Type 0 where
  pub header : fields_of (rising 256 0)
      ≡ record {
        magic = 0x03020100;
        version = 0x0504;
        profile = 6;
        flags = 7;
        content_hash = rising 32 8;
        reserved_hash = rising 32 40;
        debug_hash = rising 32 72;
        layout_hash = rising 32 104;
        directory = record {
          signature = record { offset = 0x8B8A8988; size = 0x8F8E8D8C };
          debug_signature = record { offset = 0x93929190; size = 0x97969594 };
          types = record { offset = 0x9B9A9998; size = 0x9F9E9D9C };
          tasks = record { offset = 0xA3A2A1A0; size = 0xA7A6A5A4 };
          constants = record { offset = 0xABAAA9A8; size = 0xAFAEADAC };
          code = record { offset = 0xB3B2B1B0; size = 0xB7B6B5B4 };
          debug = record { offset = 0xBBBAB9B8; size = 0xBFBEBDBC };
        };
        runtime = record {
          max_stack_depth = 0xC1C0;
          max_call_depth = 0xC3C2;
          variables = 0xC5C4;
          data_region_bytes = 0xC9C8C7C6;
          temp_buffers = 0xCBCA;
          max_temp_buffer_bytes = 0xCFCECDCC;
          functions = 0xD1D0;
          fb_types = 0xD3D2;
          input_image_bytes = 0xD5D4;
          output_image_bytes = 0xD7D6;
          memory_image_bytes = 0xD9D8;
        };
        reserved = rising 38 218;
      }
  pub masked : masked_header (rising 256 0)
      ≡ 0 ∷ 1 ∷ 2 ∷ 3 ∷ 4 ∷ 5 ∷ 6 ∷ 5 ∷ replicate 32 0 ++ rising 32 40 ++ replicate 32 0 ++ rising 32 104 ++ replicate 56 0 ++ rising 64 192
  pub hashed : hashed_string example.mill (directory_of example.mill)
      ≡ found (masked_header example.mill ++ example.tasks ++ example.types ++ example.constants ++ example.code_with 0)
  pub task : tasks.task (1 ∷ 2 ∷ 3 ∷ 4 ∷ 2 ∷ 6 ∷ rising 26 7)
      ≡ got
      (record {
        id = 0x0201;
        priority = 0x0403;
        kind = 2;
        flags = 6;
        interval = 0x0E0D0C0B0A090807;
        single_variable = 0x100F;
        watchdog = 0x1817161514131211;
        input_image_offset = 0x1A19;
        output_image_offset = 0x1C1B;
        reserved = 0x1D ∷ 0x1E ∷ 0x1F ∷ 0x20 ∷ [];
      })
      []
  pub program : tasks.program (rising 16 1)
      ≡ got
      (record {
        instance = 0x0201;
        task = 0x0403;
        entry_function = 0x0605;
        variable_offset = 0x0807;
        variable_count = 0x0A09;
        fb_instance_offset = 0x0C0B;
        fb_instance_count = 0x0E0D;
        init_function = 0x100F;
      })
      []
  pub task_table : tasks.task_table (0 ∷ 0 ∷ 0 ∷ 0 ∷ 5 ∷ 6 ∷ 7 ∷ []) ≡ got (record { shared_globals = 0x0605; tasks = []; programs = [] }) (7 ∷ [])
  pub fb_type : types.fb_type (1 ∷ 2 ∷ 1 ∷ 4 ∷ 5 ∷ 6 ∷ 7 ∷ 8 ∷ []) ≡ got (record { id = 0x0201; fields = record { kind = 5; extra = 0x0807 } ∷ [] }) []
  pub array : types.array (1 ∷ 2 ∷ 3 ∷ 4 ∷ 5 ∷ 6 ∷ 7 ∷ 8 ∷ 8 ∷ 0 ∷ 0 ∷ 0 ∷ []) ≡ got (record { kind = 1; elements = 0x06050403; extra = 0x0807; stride = 8 }) []
  -- types other than strings have exactly the natural stride
  pub stride-9 : types.stride_fits 0 0 9 ≡ false
  pub user_fb : types.user_fb (rising 8 1) ≡ got (record { id = 0x0201; function = 0x0403; variable_offset = 0x0605; field_count = 7 }) []
  -- a string may have more than eight bytes
  pub string : pool.constant by_bytes (6 ∷ 1 ∷ 9 ∷ 0 ∷ rising 9 1) ≡ got (record { kind = 6; kept = pool.string (rising 9 1) }) []
  pub signs : (pool.signed 2147483648 2147483647 ≡ pos 2147483647) × (pool.signed 2147483648 2147483648 ≡ negsuc 2147483647) × (pool.signed 2147483648 4294967295 ≡ negsuc 0)
  pub function : code.function (rising 16 1)
      ≡ got (record { id = 0x0201; offset = 0x06050403; size = 0x0A090807; max_stack_depth = 0x0C0B; locals = 0x0E0D; parameters = 0x100F }) []
  pub line : debug.line (rising 10 1) ≡ got (record { function = 0x0201; offset = 0x0403; file = 0x0605; line = 0x0807; column = 0x0A09 }) []
  pub variable : debug.variable by_bytes (rising 6 1 ++ 1 ∷ 65 ∷ 2 ∷ 66 ∷ 67 ∷ [])
      ≡ got (record { index = 0x0201; function = 0x0403; section = 5; type_tag = 6; named = 65 ∷ []; type_name = 66 ∷ 67 ∷ [] }) []
  pub function_name : debug.function_name by_bytes (1 ∷ 2 ∷ 1 ∷ 65 ∷ []) ≡ got (record { id = 0x0201; named = 65 ∷ [] }) []
  pub string_layout : debug.string_layout (rising 8 1) ≡ got (record { variable = 0x0201; data_offset = 0x06050403; max_length = 0x0807 }) []
  pub source_file : debug.source_file by_bytes (1 ∷ 0 ∷ 65 ∷ rising 32 1) ≡ got (record { located = 65 ∷ []; hash = rising 32 1 }) []
  pub enumeration : debug.enumeration by_bytes (1 ∷ 65 ∷ 2 ∷ 0 ∷ 1 ∷ 66 ∷ 0 ∷ []) ≡ got (record { named = 65 ∷ []; values = (66 ∷ []) ∷ [] ∷ [] }) []
  pub row : (debug.tag_of (rising 8 1) ≡ 0x0201) × (debug.size_of (rising 8 1) ≡ 0x08070605)
  pub known-tags : (debug.kind_of 1 ≡ debug.lines) × (debug.kind_of 2 ≡ debug.variables) × (debug.kind_of 3 ≡ debug.functions) × (debug.kind_of 4 ≡ debug.strings) × (debug.kind_of 6 ≡ debug.files) × (debug.kind_of 9 ≡ debug.enumerations)
  pub unknown-tags : (debug.kind_of 0 ≡ debug.unknown) × (debug.kind_of 5 ≡ debug.unknown) × (debug.kind_of 7 ≡ debug.unknown) × (debug.kind_of 8 ≡ debug.unknown) × (debug.kind_of 10 ≡ debug.unknown)
  -- a later table replaces the earlier, even by an empty one
  pub replaced : debug_of (2 ∷ 0 ∷ example.line_row 7 ++ example.line_row 0 ++ example.line_table ++ 0 ∷ 0 ∷ []) ≡ some debug.no_tables
  -- 14 even where 13 would hold; functions are compared before offsets
  pub unsorted : (function query : ℕ) → line_for function query (line_of 0 3 ∷ line_of 0 2 ∷ []) ≡ refused unsorted_map
  pub by-function-first : (query : ℕ) → line_for 7 query (line_of 0 3 ∷ line_of 1 2 ∷ []) ≡ refused no_line

-- the counts of M
pub record MillCounts (hash : List ℕ → List ℕ) : Type 0 where
  pub tasks : (read_from hash example.mill >>= λ r. found r.tasks) ≡ found (record { shared_globals = 0; tasks = 1; programs = 1 })
  pub types : (read_from hash example.mill >>= λ r. found r.types) ≡ found (some (record { fb_types = 0; arrays = 1; user_fbs = 0 }))
  pub constants : (read_from hash example.mill >>= λ r. found r.constants) ≡ found 2
  pub debug : (read_from hash example.mill >>= λ r. found r.debug)
      ≡ found (some (record { lines = 3; variables = 0; functions = 0; strings = 0; files = 0; enumerations = 0 }))

-- document 01: "Sections may overlap, so 261,376 bytes can be hashed from one file"; and no more than that
pub record HashLimit : Type 0 where
  pub is : header_size + 4 * (limit - header_size) ≡ hash_limit
  pub holds : (f : List ℕ) (d : Directory) (s : List ℕ) → length f ≤ limit → hashed_string f d ≡ found s → length s ≤ hash_limit
