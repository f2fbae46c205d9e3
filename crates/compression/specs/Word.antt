-- Words (numbers below 2 ^ 32), BLAKE3's operations on them, and the words of a block of bytes.
use Rattle.std.specs.Prelude.{ℕ, zero, suc, ◌+◌, ◌-◌, ◌*◌, ◌/◌, ◌%◌, ◌^◌, List, [], ◌∷◌, ◌++◌, bit_xor}
use Rattle.reading.specs.Numbers.{le_at}

abbrev pub add32 : ℕ → ℕ → ℕ
add32 x y = (x + y) % 2 ^ 32

abbrev pub xor : ℕ → ℕ → ℕ
xor x y = bit_xor x y

-- x rotated right by n: its n low bits become its highest
abbrev pub rotr : ℕ → ℕ → ℕ
rotr n x = x / 2 ^ n + x % 2 ^ n * 2 ^ (32 - n)

-- f 0, f 1, .., f (n - 1)
unfoldable pub table : (ℕ → ℕ) → ℕ → List ℕ
table f zero = []
table f (suc n) = table f n ++ (f n ∷ [])

-- the 16 words of a block: four bytes each, low byte first; a block that is not full is filled up with zeros
unfoldable pub words : List ℕ → List ℕ
words b = table (λ i. le_at 4 b (4 * i)) 16
