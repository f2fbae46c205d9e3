-- The blocks of a chunk, one after the other.
use Rattle.std.specs.Prelude.{ℕ, zero, suc, ◌+◌, List, drop}
use Rattle.compression.specs.Sizes.{block_len}
use Rattle.compression.specs.Word.{words}
use Rattle.compression.specs.Compression.{compress, chunk_start}

-- CHUNK_START for the first block of a chunk
abbrev pub start_flag : ℕ → ℕ
start_flag zero = chunk_start
start_flag (suc n) = 0

-- the chaining value after n whole blocks of s, the first of them block number `blocks` of chunk t
unfoldable pub chained : ℕ → List ℕ → ℕ → ℕ → List ℕ → List ℕ
chained zero c t blocks s = c
chained (suc n) c t blocks s = chained n (compress c (words s) t block_len (start_flag blocks)) t (blocks + 1) (drop block_len s)
