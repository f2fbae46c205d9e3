-- The map as the code keeps it: the bytes of each entry.
use Rattle.std.specs.Prelude.{ℕ, List, [], ◌∷◌, drop}
use Rattle.reading.specs.Numbers.{le_at}
use Rattle.reading.specs.Reader.{many}
use Rattle.reading.specs.Answer.{Got, item_of}
use Rattle.format.specs.Debug.{Line, line}

abbrev pub line_of : List ℕ → Line
line_of row = record { function = le_at 2 row 0; offset = le_at 2 row 2; file = le_at 2 row 4; line = le_at 2 row 6; column = le_at 2 row 8 }

abbrev pub lines_of : List (List ℕ) → List Line
lines_of [] = []
lines_of (row ∷ rows) = line_of row ∷ lines_of rows

-- the map of `n` entries at the place `at`; 1 where the section does not hold it whole
abbrev pub lines_at : List ℕ → ℕ → ℕ → Got (List Line)
lines_at s at n = item_of (many n line (drop at s))
