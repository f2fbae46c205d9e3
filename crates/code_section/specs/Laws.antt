-- A walk over the directory, step by step from its start, gives the directory: over the section's bytes, and by the steps over a file and the
-- section's place in it.
use Rattle.std.specs.Prelude.{ℕ, ◌≡◌, List}
use Rattle.reading.specs.Reader.{many}
use Rattle.reading.specs.Answer.{found, item_of}
use Rattle.reading.specs.Places.{GivesFrom, walked}
use Rattle.format.specs.Parts.{Place}
use Rattle.format.specs.Code.{function, Code, code_of}
use Rattle.format.specs.Lookups.{read_at}
use Rattle.code_section.specs.Lookups.{directory_at, next_function_at}

pub record Laws : Type 0 where
  pub walk : (s : List ℕ) (n : ℕ) → walked n function s (record { at = 0; count = n }) ≡ item_of (many n function s)
  pub walk_in : (f : List ℕ) (p : Place) (n : ℕ) (c : Code) → read_at f p (code_of n) ≡ found c → GivesFrom (directory_at f p n) (next_function_at f p) c.functions
