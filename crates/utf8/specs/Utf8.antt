-- UTF-8 by Unicode's table of well-formed byte sequences (The Unicode Standard, table 3-7). Document 01, "Leaves": "UTF-8 follows Unicode's
-- table of well-formed sequences: ..".
use mathlib.Core.List.{Memᴰ}
use Rattle.std.specs.Prelude.{Bool, true, false, ◌&&◌, cond, Option, None, Some, List, [], ◌∷◌, ◌≡◌, ℕ, zero, suc, ◌+◌, ◌≤◌, leb, eqb, length}

-- the bytes from `low` to `high`
pub record Range : Type 0 where
  pub low : ℕ
  pub high : ℕ

abbrev pub ◌to◌ : ℕ → ℕ → Range
◌to◌ a b = record { low = a; high = b }

infix 70 ◌to◌
abbrev pub within : Range → ℕ → Bool
within r b = leb r.low b && leb b r.high

-- the table: for each row the range of its first byte, then that of its second, and so on
abbrev pub well_formed : List (List Range)
well_formed =
    (0x00 to 0x7F ∷ []) ∷
    (0xC2 to 0xDF ∷ 0x80 to 0xBF ∷ []) ∷
    (0xE0 to 0xE0 ∷ 0xA0 to 0xBF ∷ 0x80 to 0xBF ∷ []) ∷
    (0xE1 to 0xEC ∷ 0x80 to 0xBF ∷ 0x80 to 0xBF ∷ []) ∷
    (0xED to 0xED ∷ 0x80 to 0x9F ∷ 0x80 to 0xBF ∷ []) ∷
    (0xEE to 0xEF ∷ 0x80 to 0xBF ∷ 0x80 to 0xBF ∷ []) ∷
    (0xF0 to 0xF0 ∷ 0x90 to 0xBF ∷ 0x80 to 0xBF ∷ 0x80 to 0xBF ∷ []) ∷
    (0xF1 to 0xF3 ∷ 0x80 to 0xBF ∷ 0x80 to 0xBF ∷ 0x80 to 0xBF ∷ []) ∷
    (0xF4 to 0xF4 ∷ 0x80 to 0x8F ∷ 0x80 to 0xBF ∷ 0x80 to 0xBF ∷ []) ∷
    []

-- the text starts with a byte in each range of the row, in turn
abbrev pub starts : List Range → List ℕ → Bool
starts [] s = true
starts (r ∷ row) [] = false
starts (r ∷ row) (b ∷ s) = within r b && starts row s

-- the length of the first row of the table that the text starts with, or 0 if there is none
abbrev pub first_of : List (List Range) → List ℕ → ℕ
first_of [] s = 0
first_of (row ∷ rows) s = cond (starts row s) (length row) (first_of rows s)

-- the length of the well-formed sequence that the text starts with, or 0 if there is none
unfoldable pub sequence_at : List ℕ → ℕ
sequence_at s = first_of well_formed s

-- the length of a sequence, if there is one
abbrev pub if_any : ℕ → Option ℕ
if_any zero = None
if_any (suc k) = Some (suc k)

-- a row of the table
abbrev pub IsRow : List Range → Type 0
IsRow row = Memᴰ row well_formed

-- no sequence: the count ends here; a sequence: its first byte counts, and then what `f` gives for the rest
abbrev pub onward : ℕ → (ℕ → ℕ) → ℕ
onward zero f = 0
onward (suc k) f = suc (f k)

-- `valid_up_to`, where `k` more bytes belong to a sequence that was already found whole
unfoldable pub valid_after : ℕ → List ℕ → ℕ
valid_after k [] = 0
valid_after (suc k) (b ∷ s) = suc (valid_after k s)
valid_after zero (b ∷ s) = onward (sequence_at (b ∷ s)) (λ k. valid_after k s)

-- the length of the longest start of the text that consists of whole well-formed sequences
unfoldable pub valid_up_to : List ℕ → ℕ
valid_up_to s = valid_after 0 s

-- whole sequences lead from the text to its rest: they add their length to the valid length of the rest
pub record Passed (s rest : List ℕ) : Type 0 where
  pub within : length rest ≤ length s
  pub valid : valid_up_to s + length rest ≡ length s + valid_up_to rest

-- the text is well-formed UTF-8: that length is its own
unfoldable pub utf8 : List ℕ → Bool
utf8 s = eqb (valid_up_to s) (length s)
