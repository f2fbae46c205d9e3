-- The text that a walk over a table gives: the lines of each entry that its steps give, one behind the other. It is defined for any steps, even those
-- that stop before the table's end.
use Rattle.std.specs.Prelude.{ℕ, zero, suc, List, [], ◌++◌}
use Rattle.reading.specs.Answer.{Got, found, ◌>>=◌}
use Rattle.reading.specs.Places.{Next, ends, faulty, entry}
use Rattle.reading.specs.declared.Table.{Table}
use Rattle.format.specs.Parts.{Place}
use Rattle.format.specs.Record.{Container}
use Rattle.type_section.specs.Lookups.{FbTypeEntry, next_field_at}
use Rattle.record.specs.Starts.{debug_starts_in}
use Rattle.entry_lines.specs.Lines.{fb_type_line, field_line}

abbrev pub on_step : {A : Type 0} → Next A → (A → Table → List ℕ) → List ℕ
on_step ends go = []
on_step (faulty f) go = []
on_step (entry a u) go = go a u

-- by the steps, and by the lines of an entry and its index
module _ {A : Type 0} (step : Table → Next A) (line_of : ℕ → A → List ℕ) where
  -- the lines of at most `n` entries, whose indices are i and those behind it
  unfoldable pub walk_text : ℕ → ℕ → Table → List ℕ
  walk_text i zero t = []
  walk_text i (suc n) t = on_step (step t) (λ a u. line_of i a ++ walk_text (suc i) n u)

  -- what a walk over a whole table gives
  abbrev pub entries_text : Table → List ℕ
  entries_text t = walk_text 0 t.count t

-- Of the tables of a file

-- where a walk over the lines starts
abbrev pub lines_start_in : List ℕ → Container → Got Table
lines_start_in f r = debug_starts_in f r >>= λ t. found t.lines

-- an FB type's line is followed by its fields', for any file and place of the section
abbrev pub fb_type_text : List ℕ → Place → FbTypeEntry → List ℕ
fb_type_text f p b = fb_type_line b.head ++ entries_text (next_field_at f p) (λ i. field_line) b.fields
