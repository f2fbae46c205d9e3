-- The laws of numbers and records: the numbers of a record give it back, and which numbers give none.
use Rattle.std.specs.Prelude.{ℕ, ◌+◌, ◌<◌, ◌≤◌, List, [], ◌∷◌, ◌++◌, ◌≡◌, true, length, get_or, replicate}
use Rattle.std.proofs.Math.Option.{none, some}
use Rattle.format.specs.Parts.{hash_size}
use Rattle.reading.specs.Answer.{found, ◌>>=◌}
use Rattle.format.specs.InForce.{none_in_force}
use Rattle.format.specs.Record.{Container, read_from}
use Rattle.format.specs.Examples.{mill}
use Rattle.record_numbers.specs.ToNumbers.{in_force_numbers, lookup_numbers, record_numbers}
use Rattle.record_numbers.specs.FromNumbers.{number_count, most_of_fields, fits, types_flag_at, constants_place, debug_flag_at, number_at, record_of_numbers}

-- what numbers keep of a record: zeros for its hashes and reserved bytes, the magic of every file that loads, and no rows in force
abbrev pub kept_in_numbers : Container → Container
kept_in_numbers c =
    record {
      header =
          record {
            magic = 0x49504C43;
            version = c.header.version;
            profile = c.header.profile;
            flags = c.header.flags;
            content_hash = replicate hash_size 0;
            reserved_hash = replicate hash_size 0;
            debug_hash = replicate hash_size 0;
            layout_hash = replicate hash_size 0;
            directory = c.header.directory;
            runtime = c.header.runtime;
            reserved = replicate 38 0;
          };
      tasks = c.tasks;
      types = c.types;
      constants = c.constants;
      debug = c.debug;
      in_force = none_in_force;
    }

-- each number that stands for a record fits its field, as those of every record of the code do
pub record Fits (c : Container) : Type 0 where
  pub all : fits most_of_fields (0 ∷ lookup_numbers c) ≡ true

-- the numbers of document 01's mill file M
abbrev pub mill_numbers : List ℕ
mill_numbers =
    (0 ∷ 4 ∷ 0 ∷ 6 ∷ [])  -- 0, then version, profile, flags
    ++ (0 ∷ 0 ∷ 0 ∷ 0 ∷ 310 ∷ 16 ∷ 256 ∷ 54 ∷ 326 ∷ 16 ∷ 342 ∷ 21 ∷ 363 ∷ 42 ∷ [])  -- the two signatures, types, tasks, constants, code, debug
    ++ (0 ∷ 0 ∷ 0 ∷ 0 ∷ 0 ∷ 0 ∷ 1 ∷ 0 ∷ 0 ∷ 0 ∷ 0 ∷ [])  -- the runtime numbers: one function
    ++ (1 ∷ 1 ∷ 0 ∷ [])  -- a task, a program, no shared globals
    ++ (1 ∷ 0 ∷ 1 ∷ 0 ∷ [])  -- there are types: one array
    ++ (2 ∷ [])  -- constants
    ++ (1 ∷ 3 ∷ 0 ∷ 0 ∷ 0 ∷ 0 ∷ 0 ∷ [])  -- there is debug: three lines
    ++ (1 ∷ 0 ∷ 0 ∷ [])  -- the lines stand in row 0 and replaced none
    ++ replicate 15 0  -- the other five tags have no row

pub record Laws : Type 0 where
  -- 44 numbers stand for a record, and 18 more follow
  pub how-many : (c : Container) → (length (0 ∷ lookup_numbers c) ≡ number_count) × (length (0 ∷ record_numbers c) ≡ number_count + 18)
  -- the numbers that stand for a record give it back, with any numbers behind them: none, or the rows in force, or others
  pub comes_back : (c : Container) (more : List ℕ) → Fits c → record_of_numbers ((0 ∷ lookup_numbers c) ++ more) ≡ some (kept_in_numbers c)
  -- numbers behind the first 44 are not looked at
  pub first_count : (ns more : List ℕ) → number_count ≤ length ns → record_of_numbers (ns ++ more) ≡ record_of_numbers ns
  -- no record: too few numbers; a first number other than 0; a flag other than 0 or 1; a number that its field cannot hold; a count other than 0 beside a flag 0
  pub too_few : (ns : List ℕ) → length ns < number_count → record_of_numbers ns ≡ none
  pub first-zero : (ns : List ℕ) → 0 < number_at ns 0 → record_of_numbers ns ≡ none
  pub types-flag : (ns : List ℕ) → 1 < number_at ns types_flag_at → record_of_numbers ns ≡ none
  pub debug-flag : (ns : List ℕ) → 1 < number_at ns debug_flag_at → record_of_numbers ns ≡ none
  pub too_large : (ns : List ℕ) (k : ℕ) → k < number_count → get_or most_of_fields k 0 < number_at ns k → record_of_numbers ns ≡ none
  pub no-types : (ns : List ℕ) (k : ℕ) → types_flag_at < k → k < constants_place → number_at ns types_flag_at ≡ 0 → 0 < number_at ns k → record_of_numbers ns ≡ none
  pub no-debug : (ns : List ℕ) (k : ℕ) → debug_flag_at < k → k < number_count → number_at ns debug_flag_at ≡ 0 → 0 < number_at ns k → record_of_numbers ns ≡ none
  -- which number of the rows in force is which: rows 2, 1, none, 8, 6 and 5, having replaced 1, 0, 0, 0, 0 and 2
  pub rows-in-order : in_force_numbers
      (record {
        lines = record { row = some 2; replaced = 1 };
        variables = record { row = some 1; replaced = 0 };
        functions = record { row = none; replaced = 0 };
        strings = record { row = some 8; replaced = 0 };
        files = record { row = some 6; replaced = 0 };
        enumerations = record { row = some 5; replaced = 2 };
      })
      ≡ 1 ∷ 2 ∷ 1 ∷ 1 ∷ 1 ∷ 0 ∷ 0 ∷ 0 ∷ 0 ∷ 1 ∷ 8 ∷ 0 ∷ 1 ∷ 6 ∷ 0 ∷ 1 ∷ 5 ∷ 2 ∷ []
  -- which number is which: what loading M writes, for any hash
  pub mill-numbers : (hash : List ℕ → List ℕ) → (read_from hash mill >>= λ r. found (0 ∷ record_numbers r)) ≡ found mill_numbers
