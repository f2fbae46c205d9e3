-- Four chunks side by side. Lane j has the chunk that starts j chunks after the first.
use Rattle.std.specs.Prelude.{◌≡◌, ℕ, zero, suc, ◌+◌, ◌*◌, ◌%◌, ◌^◌, ◌<◌, List, [], drop, slice_index_or}
use Rattle.compression.specs.Sizes.{block_len, chunk_len, last_block}
use Rattle.compression.specs.Word.{words}
use Rattle.compression.specs.Compression.{iv, compress, chunk_end}
use Rattle.compression.specs.Chain.{chained}

-- the chaining value of lane j
abbrev pub lane : List (List ℕ) → ℕ → List ℕ
lane h j = slice_index_or h j []

-- how many bits the number of a chunk has, in the hash state and in the lanes
abbrev pub count_bits : ℕ
count_bits = 64

-- the number of the chunk that comes j chunks after chunk t; lane j has it if lane 0 has chunk t
abbrev pub counter_after : ℕ → ℕ → ℕ
counter_after t j = (t + j) % 2 ^ count_bits

-- each lane of r is that lane of h compressed with its block of s; s starts with the block of lane 0
abbrev pub Compressed : (h r : List (List ℕ)) (s : List ℕ) (t flags : ℕ) → Type 0
Compressed h r s t flags = (j : ℕ) → j < 4 → lane r j ≡ compress (lane h j) (words (drop (chunk_len * j) s)) (counter_after t j) block_len flags

-- the chaining value of chunk t, which s starts with, from the chaining value c on: the blocks before the last, and the last
unfoldable pub chunk_value : List ℕ → ℕ → List ℕ → List ℕ
chunk_value c t s = compress (chained last_block c t 0 s) (words (drop (block_len * last_block) s)) t block_len chunk_end

-- the chaining value that lane j goes on from: c in the first lane, the start value in the others
abbrev pub from : List ℕ → ℕ → List ℕ
from c zero = c
from c (suc j) = iv

-- each lane of r has the chaining value of its chunk; s starts with the chunk of lane 0
abbrev pub Chunks : (c : List ℕ) (r : List (List ℕ)) (s : List ℕ) (t : ℕ) → Type 0
Chunks c r s t = (j : ℕ) → j < 4 → lane r j ≡ chunk_value (from c j) (counter_after t j) (drop (chunk_len * j) s)
