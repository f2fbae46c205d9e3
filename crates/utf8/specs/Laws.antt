-- What is claimed of the definitions of `Utf8`: the valid length is that of whole sequences, and no longer start is whole.
use Rattle.std.specs.Prelude.{true, ◌≡◌, ℕ, ◌≤◌, T, length, take}
use mathlib.Core.List.{List, [], ◌++◌, Memᴰ}
use Rattle.utf8.specs.Utf8.{Range, well_formed, starts, valid_up_to, utf8}

-- a text of whole well-formed sequences, one behind the other
pub data Whole : List ℕ → Type 0 where
  none : Whole []
  more : (p s : List ℕ) (row : List Range) → Memᴰ row well_formed → T (starts row p) → length p ≡ length row → Whole s → Whole (p ++ s)

pub record LongestValidStart (s : List ℕ) : Type 0 where
  pub within : valid_up_to s ≤ length s
  pub whole : Whole (take (valid_up_to s) s)
  pub longest : (n : ℕ) → n ≤ length s → Whole (take n s) → n ≤ valid_up_to s

-- for every text; and a text is valid exactly if it is whole
pub record Laws : Type 0 where
  pub longest-valid-start : (s : List ℕ) → LongestValidStart s
  pub valid-is-whole : (s : List ℕ) → utf8 s ≡ true → Whole s
  pub whole-is-valid : (s : List ℕ) → Whole s → utf8 s ≡ true
