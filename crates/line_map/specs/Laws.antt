-- What holds of the line map.
use Rattle.std.specs.Prelude.{ℕ, ◌+◌, ◌*◌, true, false, List, ◌≡◌, drop}
use Rattle.std.proofs.Math.Option.{none}
use Rattle.reading.specs.Fault.{short_input}
use Rattle.reading.specs.Reader.{fault, got, many}
use Rattle.reading.specs.Answer.{item_of}
use Rattle.reading.specs.Places.{walked}
use Rattle.format.specs.Debug.{Line, line}
use Rattle.format.specs.Lines.{sorted, best_of}
use Rattle.line_map.specs.Choice.{choice_of}
use Rattle.line_map.specs.Lookups.{line_map_entry_size, lines_fit}

pub record Laws : Type 0 where
  -- a map that the section holds whole reads, entry by entry; any other is too short
  pub fits : (s : List ℕ) (at n : ℕ) → lines_fit s at n ≡ true → (es : List Line) × (many n line (drop at s) ≡ got es (drop (at + line_map_entry_size * n) s))
  pub short : (s : List ℕ) (at n : ℕ) → lines_fit s at n ≡ false → many n line (drop at s) ≡ fault short_input
  -- on a sorted map the walk that ends at the first entry above the query chooses the entry that document 01 names
  pub choice : (function query : ℕ) (es : List Line) → sorted es ≡ true → choice_of function query none es ≡ best_of function query none es
  -- a walk over the map, step by step from its start, gives its entries
  pub walk : (s : List ℕ) (at n : ℕ) → walked n line s (record { at = at; count = n }) ≡ item_of (many n line (drop at s))
