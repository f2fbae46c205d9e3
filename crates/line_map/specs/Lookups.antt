-- What the functions answer, over the section's bytes `s` and a map of `n` entries at its place `at`.
use Rattle.std.specs.Prelude.{ℕ, ◌*◌, ◌-◌, Bool, false, List, leb, length, drop}
use Rattle.reading.specs.Reader.{many}
use Rattle.reading.specs.Answer.{Got, refused, found, ◌>>=◌, item_of, indexed}
use Rattle.format.specs.Faults.{no_entry}
use Rattle.format.specs.Debug.{Line, line}
use Rattle.format.specs.Lines.{sorted, line_for}

-- the bytes of an entry of the map
abbrev pub line_map_entry_size : ℕ
line_map_entry_size = 10

-- the section holds the whole map
abbrev pub lines_fit : List ℕ → ℕ → ℕ → Bool
lines_fit s at n = leb (line_map_entry_size * n) (length s - at)

-- an answer from the map's entries, which are read first
abbrev pub in_lines : {B : Type 0} → List ℕ → ℕ → ℕ → (List Line → Got B) → Got B
in_lines s at n pick = item_of (many n line (drop at s)) >>= pick

abbrev pub sorted_in : List ℕ → ℕ → ℕ → Got Bool
sorted_in s at n = in_lines s at n (λ es. found (sorted es))

-- whether the map is sorted; a map that the section does not hold whole is not
abbrev pub is_true : Got Bool → Bool
is_true (refused f) = false
is_true (found b) = b

abbrev pub is_sorted : List ℕ → ℕ → ℕ → Bool
is_sorted s at n = is_true (sorted_in s at n)

-- the entry for a function and an offset: 14 on a map that is not sorted, 13 if the function has no entry at or before the offset
abbrev pub source_line_in : List ℕ → ℕ → ℕ → ℕ → ℕ → Got Line
source_line_in s at n function query = in_lines s at n (line_for function query)

-- the entry at an index: 29 if the index is not below the count
abbrev pub line_of_map : List ℕ → ℕ → ℕ → ℕ → Got Line
line_of_map s at n k = in_lines s at n (λ es. indexed no_entry es k)
