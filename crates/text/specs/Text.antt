-- Text as bytes: numbers in decimal, bytes in hexadecimal, lines of them (document 01, "Numbers are decimal, kept bytes hexadecimal").
use Rattle.std.specs.Prelude.{ℕ, zero, suc, ◌+◌, ◌-◌, ◌/◌, ◌%◌, cond, List, [], ◌∷◌, ◌++◌, ltb}
use Prim.Native.Char.{code}
use Prim.Native.String.{String}
use Prim.Native.String as string

-- the bytes of a quoted text, all of whose characters are ASCII
abbrev pub ascii : String → List ℕ
ascii string.[] = []
ascii (string.◌∷◌ c cs) = code c ∷ ascii cs

-- Decimal

-- the digits of a number, the highest first; of more than k the last k
unfoldable pub digits : ℕ → ℕ → List ℕ
digits zero n = []
digits (suc k) n = cond (ltb n 10) ((code "0" + n) ∷ []) (digits k (n / 10) ++ ((code "0" + n % 10) ∷ []))

-- a number below 2^64 has at most 20 digits
abbrev pub most_digits : ℕ
most_digits = 20

abbrev pub decimal : ℕ → List ℕ
decimal n = digits most_digits n

-- a space and a number, for each
unfoldable pub numbers : List ℕ → List ℕ
numbers [] = []
numbers (n ∷ ns) = (ascii " " ++ decimal n) ++ numbers ns

-- Hexadecimal, in lower case

abbrev pub hex_digit : ℕ → ℕ
hex_digit d = cond (ltb d 10) (code "0" + d) (code "a" + (d - 10))

-- two digits for each byte
unfoldable pub hexes : List ℕ → List ℕ
hexes [] = []
hexes (b ∷ bs) = hex_digit (b / 16) ∷ hex_digit (b % 16) ∷ hexes bs

-- a dash where there are no bytes
abbrev pub hex_or_dash : List ℕ → List ℕ
hex_or_dash [] = ascii "-"
hex_or_dash (b ∷ bs) = hexes (b ∷ bs)

-- Lines

-- a word, numbers, and an end
abbrev pub ended : List ℕ → List ℕ → List ℕ → List ℕ
ended word ns end = word ++ numbers ns ++ end

abbrev pub line : List ℕ → List ℕ → List ℕ
line word ns = ended word ns (ascii "\n")

-- a line that ends in a dash
abbrev pub dash_line : List ℕ → List ℕ → List ℕ
dash_line word ns = ended word ns (ascii " -\n")

-- a line that ends in bytes
abbrev pub bytes_line : List ℕ → List ℕ → List ℕ → List ℕ
bytes_line word ns bs = ended word ns (ascii " ") ++ hex_or_dash bs ++ ascii "\n"
