-- The programs' own limit (document 01, "65,536 bytes read; 65,537: 10"), whatever the library answers, and so whatever the library's limit is.
use Rattle.std.specs.Prelude.{ℕ, ◌+◌, ◌<◌, ◌≤◌, ◌≡◌, List, length, take}
use Rattle.reading.specs.Answer.{Got, refused}
use Rattle.format.specs.Faults.{too_long}
use Rattle.format.specs.Parts.{program_limit}
use Rattle.format.specs.Record.{for_program}

-- `library` is what the library answers for each file
pub record ProgramLimit {A : Type 0} (library : List ℕ → Got A) : Type 0 where
  -- up to the limit a program answers as the library does
  pub within : (f : List ℕ) → length f ≤ program_limit → for_program f (library f) ≡ library f
  -- above it 10, before the file's own faults
  pub above : (f : List ℕ) → program_limit < length f → for_program f (library f) ≡ refused too_long
  -- so a program need not read more than one byte beyond the limit
  pub read-on : (f : List ℕ) → for_program (take (program_limit + 1) f) (library (take (program_limit + 1) f)) ≡ for_program f (library f)
