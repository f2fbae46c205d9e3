-- What the definitions give on known values, by computation.
use Rattle.std.specs.Prelude.{◌≡◌, ◌+◌, [], ◌∷◌, refl}
use Rattle.reading.specs.Numbers.{le, bytes_le, word_bytes}
use Rattle.compression.specs.Sizes.{block_len}
use Rattle.compression.specs.Word.{rotr, table, words}
use Rattle.compression.specs.Compression.{quarter, put, mix, round, rounds, iv, compress, chunk_start, chunk_end, root_flag}

-- a rotation by 8 brings the low byte to the top
rotated : rotr 8 0x12345678 ≡ 0x78123456
rotated = refl

-- BLAKE3 of the bytes 0 to 63, from its published test vectors: the only block of the only chunk
digest : word_bytes (compress iv (words (table (λ i. i) block_len)) 0 block_len (chunk_start + chunk_end + root_flag))
    ≡ 0x4e ∷ 0xed ∷ 0x71 ∷ 0x41 ∷ 0xea ∷ 0x4a ∷ 0x5c ∷ 0xd4 ∷ 0xb7 ∷ 0x88 ∷ 0x60 ∷ 0x6b ∷ 0xd2 ∷ 0x3f ∷ 0x46 ∷ 0xe2
    ∷ 0x12 ∷ 0xaf ∷ 0x9c ∷ 0xac ∷ 0xeb ∷ 0xac ∷ 0xdc ∷ 0x7d ∷ 0x1f ∷ 0x4c ∷ 0x6d ∷ 0xc7 ∷ 0xf2 ∷ 0x51 ∷ 0x1b ∷ 0x98 ∷ []
unfolding le bytes_le word_bytes table words quarter put mix round rounds compress
digest = refl
