-- The lengths that BLAKE3 fixes (its specification, section 2.1; document 01: "chunks of 1,024 bytes").
use Rattle.std.specs.Prelude.{ℕ}

-- the bytes of a block
abbrev pub block_len : ℕ
block_len = 64

-- the bytes of a chunk
abbrev pub chunk_len : ℕ
chunk_len = 1024

-- the number of a chunk's last block, counted from 0: a chunk has this many blocks before its last
abbrev pub last_block : ℕ
last_block = 15
