-- The line lookup in document 01's words: "the last entry of the asked function whose offset is greatest among those not above the
-- query; 13 exactly if that function has none such"; and 14 exactly if the map is not sorted.
use Rattle.std.specs.Prelude.{true, false, ◌≡◌, ℕ, ◌≤◌, ◌<◌}
use mathlib.Core.List.{List, ◌∷◌, ◌++◌, Memᴰ}
use Rattle.reading.specs.Answer.{refused, found}
use Rattle.format.specs.Faults.{no_line, unsorted_map}
use Rattle.format.specs.Debug.{Line}
use Rattle.format.specs.Lines.{sorted, candidate, line_for}

-- `e` is the last of the candidates with the greatest offset
pub record Chosen (function query : ℕ) (es : List Line) (e : Line) : Type 0 where
  pub before : List Line
  pub behind : List Line
  pub split : es ≡ before ++ (e ∷ behind)
  pub is-candidate : candidate function query e ≡ true
  pub none-greater-before : (d : Line) → Memᴰ d before → candidate function query d ≡ true → d.offset ≤ e.offset
  pub all-less-behind : (d : Line) → Memᴰ d behind → candidate function query d ≡ true → d.offset < e.offset

abbrev pub NoCandidate : ℕ → ℕ → List Line → Type 0
NoCandidate function query es = (d : Line) → Memᴰ d es → candidate function query d ≡ false

pub record LineFound (function query : ℕ) (es : List Line) : Type 0 where
  pub unsorted : sorted es ≡ false → line_for function query es ≡ refused unsorted_map
  pub only-unsorted : line_for function query es ≡ refused unsorted_map → sorted es ≡ false
  pub none : sorted es ≡ true → NoCandidate function query es → line_for function query es ≡ refused no_line
  pub only_none : line_for function query es ≡ refused no_line → (sorted es ≡ true) × NoCandidate function query es
  pub chosen : (e : Line) → line_for function query es ≡ found e → (sorted es ≡ true) × Chosen function query es e
