-- What makes the definitions of `specs/Text` believable.
use Rattle.std.specs.Prelude.{ℕ, ◌+◌, ◌-◌, ◌*◌, ◌<◌, ◌^◌, ◌≡◌, Bool, ◌&&◌, cond, List, [], ◌∷◌, ◌++◌, map, leb, length, get_or}
use Rattle.std.proofs.Math.Option.{Option, none, some}
use Prim.Native.Char.{code}
use Rattle.text.specs.Text.{ascii, decimal, hex_digit, hexes}

-- "0" to "9"
abbrev pub is_digit : ℕ → Bool
is_digit d = leb (code "0") d && leb d (code "9")

-- the number that a text of decimal digits stands for, read after the digits of n
unfoldable pub read_behind : ℕ → List ℕ → Option ℕ
read_behind n [] = some n
read_behind n (d ∷ ds) = cond (is_digit d) (read_behind (10 * n + (d - code "0")) ds) none

abbrev pub read_decimal : List ℕ → Option ℕ
read_decimal ds = read_behind 0 ds

pub record Laws : Type 0 where
  -- a number below 2^64 is read back from its digits
  pub decimal-back : (n : ℕ) → n < 2 ^ 64 → read_decimal (decimal n) ≡ some n
  -- "0" is the first digit only of 0
  pub no-zero-in-front : (n : ℕ) → n < 2 ^ 64 → get_or (decimal n) 0 0 ≡ code "0" → n ≡ 0
  -- which has that digit
  pub zero : decimal 0 ≡ ascii "0"
  -- the digits of 0 to 15
  pub hex-digits : map hex_digit (0 ∷ 1 ∷ 2 ∷ 3 ∷ 4 ∷ 5 ∷ 6 ∷ 7 ∷ 8 ∷ 9 ∷ 10 ∷ 11 ∷ 12 ∷ 13 ∷ 14 ∷ 15 ∷ [])
      ≡ ascii "0123456789abcdef"
  -- two digits for each byte, the high one first
  pub high-first : hexes (0x0E ∷ 0x6B ∷ 0xF0 ∷ []) ≡ ascii "0e6bf0"
  pub hex-length : (bs : List ℕ) → length (hexes bs) ≡ 2 * length bs
  -- bytes can be written in parts
  pub hex-parts : (xs ys : List ℕ) → hexes (xs ++ ys) ≡ hexes xs ++ hexes ys
