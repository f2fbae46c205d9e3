-- Numbers, low byte first, of any width (document 01: "Numbers are low byte first").
use Rattle.std.specs.Prelude.{ℕ, zero, suc, ◌+◌, ◌*◌, ◌/◌, ◌%◌, List, [], ◌∷◌, ◌++◌, take, drop}

-- the number that a list of bytes is
unfoldable pub le : List ℕ → ℕ
le [] = 0
le (b ∷ bs) = b + 256 * le bs

-- the number that the `width` bytes at the place `at` of `s` are
abbrev pub le_at : ℕ → List ℕ → ℕ → ℕ
le_at width s at = le (take width (drop at s))

-- the `width` low bytes of a number
unfoldable pub bytes_le : ℕ → ℕ → List ℕ
bytes_le zero n = []
bytes_le (suc width) n = n % 256 ∷ bytes_le width (n / 256)

-- the bytes of words of four bytes each
unfoldable pub word_bytes : List ℕ → List ℕ
word_bytes [] = []
word_bytes (w ∷ ws) = bytes_le 4 w ++ word_bytes ws
