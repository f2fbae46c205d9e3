-- Numbers back to a record: the 0 of a file that loads and the numbers of its record, in the order of `record_numbers`. Only the first 44 count: those
-- that a lookup needs. The rows in force behind them are not read back.
use Rattle.std.specs.Prelude.{ℕ, ◌+◌, Bool, true, false, ◌&&◌, cond, List, [], ◌∷◌, ◌++◌, leb, eqb, get_or, take, replicate}
use Rattle.std.proofs.Math.Option.{Option, none, some}
use Rattle.format.specs.Parts.{hash_size, Place}
use Rattle.format.specs.Header.{Header, Directory, Runtime}
use Rattle.format.specs.InForce.{none_in_force}
use Rattle.format.specs.Record.{TaskCounts, TypeCounts, DebugCounts, Container}

-- the numbers that stand for a record, with the 0 in front of them
abbrev pub number_count : ℕ
number_count = 44

-- Which numbers are those of a record: each is at most what its field can hold

-- fields of 1, 2 and 4 bytes
abbrev pub most1 : ℕ
most1 = 255

abbrev pub most2 : ℕ
most2 = 65535

abbrev pub most4 : ℕ
most4 = 4294967295

-- a count beside its flag: with the flag 0 it is 0
abbrev pub most_count : ℕ → ℕ
most_count flag = cond (eqb flag 0) 0 most2

-- version, profile, flags
abbrev pub head_most : List ℕ
head_most = most2 ∷ most1 ∷ most1 ∷ []

-- offset and size of the seven sections
abbrev pub directory_most : List ℕ
directory_most = replicate 14 most4

-- the eleven runtime numbers
abbrev pub runtime_most : List ℕ
runtime_most = most2 ∷ most2 ∷ most2 ∷ most4 ∷ most2 ∷ most4 ∷ most2 ∷ most2 ∷ most2 ∷ most2 ∷ most2 ∷ []

-- tasks, programs, shared globals size
abbrev pub task_count_most : List ℕ
task_count_most = most2 ∷ most2 ∷ most2 ∷ []

-- the flag of types; FB types, arrays, user FBs
abbrev pub type_count_most : ℕ → List ℕ
type_count_most count = 1 ∷ count ∷ count ∷ count ∷ []

-- the flag of debug; lines, variables, functions, strings, files, enumerations
abbrev pub debug_count_most : ℕ → List ℕ
debug_count_most count = 1 ∷ count ∷ count ∷ count ∷ count ∷ count ∷ count ∷ []

-- each number at its most, where the counts of types and of debug are at most `types` and `debug`: the 0 of a file that loads, and the record's numbers
abbrev pub most_with : ℕ → ℕ → List ℕ
most_with types debug = (0 ∷ head_most) ++ directory_most ++ runtime_most ++ task_count_most ++ type_count_most types ++ (most2 ∷ []) ++ debug_count_most debug

-- the same by the flags of types and debug
abbrev pub most_numbers : ℕ → ℕ → List ℕ
most_numbers types debug = most_with (most_count types) (most_count debug)

-- what the fields can hold, whatever the flags are
abbrev pub most_of_fields : List ℕ
most_of_fields = most_with most2 most2

-- each number of a list is there and at most as much
unfoldable pub fits : List ℕ → List ℕ → Bool
fits [] ns = true
fits (most ∷ ms) [] = false
fits (most ∷ ms) (n ∷ ns) = leb n most && fits ms ns

-- The record of numbers, by the number at each place

-- a header whose hashes and reserved bytes are zero; the magic is that of every file that loads
abbrev pub header_without : ℕ → ℕ → ℕ → Directory → Runtime → Header
header_without version profile flags directory runtime =
    record {
      magic = 0x49504C43;
      version = version;
      profile = profile;
      flags = flags;
      content_hash = replicate hash_size 0;
      reserved_hash = replicate hash_size 0;
      debug_hash = replicate hash_size 0;
      layout_hash = replicate hash_size 0;
      directory = directory;
      runtime = runtime;
      reserved = replicate 38 0;
    }

abbrev pub place_by : (ℕ → ℕ) → ℕ → Place
place_by n k = record { offset = n k; size = n (k + 1) }

abbrev pub directory_by : (ℕ → ℕ) → Directory
directory_by n =
    record {
      signature = place_by n 4;
      debug_signature = place_by n 6;
      types = place_by n 8;
      tasks = place_by n 10;
      constants = place_by n 12;
      code = place_by n 14;
      debug = place_by n 16;
    }

abbrev pub runtime_by : (ℕ → ℕ) → Runtime
runtime_by n =
    record {
      max_stack_depth = n 18;
      max_call_depth = n 19;
      variables = n 20;
      data_region_bytes = n 21;
      temp_buffers = n 22;
      max_temp_buffer_bytes = n 23;
      functions = n 24;
      fb_types = n 25;
      input_image_bytes = n 26;
      output_image_bytes = n 27;
      memory_image_bytes = n 28;
    }

abbrev pub header_by : (ℕ → ℕ) → Header
header_by n = header_without (n 1) (n 2) (n 3) (directory_by n) (runtime_by n)

abbrev pub task_counts_by : (ℕ → ℕ) → TaskCounts
task_counts_by n = record { tasks = n 29; programs = n 30; shared_globals = n 31 }

abbrev pub types_flag_at : ℕ
types_flag_at = 32

abbrev pub type_counts_by : (ℕ → ℕ) → Option TypeCounts
type_counts_by n = cond (eqb (n types_flag_at) 0) none (some (record { fb_types = n 33; arrays = n 34; user_fbs = n 35 }))

abbrev pub constants_place : ℕ
constants_place = 36

abbrev pub debug_flag_at : ℕ
debug_flag_at = 37

abbrev pub debug_counts_by : (ℕ → ℕ) → Option DebugCounts
debug_counts_by n =
    cond (eqb (n debug_flag_at) 0) none
    (some (record { lines = n 38; variables = n 39; functions = n 40; strings = n 41; files = n 42; enumerations = n 43 }))

abbrev pub record_by : (ℕ → ℕ) → Container
record_by n =
    record {
      header = header_by n;
      tasks = task_counts_by n;
      types = type_counts_by n;
      constants = n constants_place;
      debug = debug_counts_by n;
      in_force = none_in_force;
    }

-- the number at a place of a list
abbrev pub number_at : List ℕ → ℕ → ℕ
number_at ns k = get_or ns k 0

unfoldable pub record_of_first : List ℕ → Option Container
record_of_first ns = cond (fits (most_numbers (number_at ns types_flag_at) (number_at ns debug_flag_at)) ns) (some (record_by (number_at ns))) none

-- The record of a list of numbers. There is none if there are fewer than 44, the first is not 0, a number is more than its field can hold, a flag is neither
-- 0 nor 1, or a count beside a flag 0 is not 0
abbrev pub record_of_numbers : List ℕ → Option Container
record_of_numbers ns = record_of_first (take number_count ns)
