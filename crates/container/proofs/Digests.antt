-- The digests of `specs/Examples`, by computation.
use mathlib.Core.Path.{◌≡◌, refl}
use mathlib.Core.List.{List, ◌∷◌, ◌++◌}
use Prim.Native.Nat.{ℕ}
use lib.ListN.{replicate}
use Rattle.reading.specs.Numbers.{le, bytes_le, word_bytes}
use Rattle.format.specs.Examples.{tasks, types, constants, code_with, lines, lines_more}
use Rattle.compression.specs.Word.{table, words}
use Rattle.compression.specs.Compression.{quarter, put, mix, round, rounds, compress}
use Rattle.hasher.specs.Tree.{node}
use Rattle.hasher.specs.Hash.{chunk_from, hash_words}
use Rattle.blake3.specs.Blake3.{blake3}
use Rattle.container.specs.Examples.{content_digest, tiny_digest, lines_digest, lines_more_digest}

-- what M's content hash runs over: the masked header, then tasks, types, constants and code
abbrev pub content : List ℕ
content = 0x43 ∷ 0x4C ∷ 0x50 ∷ 0x49 ∷ 4 ∷ 0 ∷ 0 ∷ 4 ∷ replicate 200 0 ++ 1 ∷ replicate 47 0 ++ tasks ++ types ++ constants ++ code_with 0

-- and the tiny file's: it has 8 bytes of sections, all zero
abbrev pub tiny_content : List ℕ
tiny_content = 0x43 ∷ 0x4C ∷ 0x50 ∷ 0x49 ∷ 4 ∷ 0 ∷ 0 ∷ 0 ∷ replicate 256 0

pub record Digests (hash : List ℕ → List ℕ) : Type 0 where
  pub of-content : hash content ≡ content_digest
  pub of-tiny : hash tiny_content ≡ tiny_digest
  pub of-lines : hash lines ≡ lines_digest
  pub of-lines-more : hash lines_more ≡ lines_more_digest

pub digests : Digests blake3
unfolding le bytes_le word_bytes table words quarter put mix round rounds compress node chunk_from hash_words
digests = record { of-content = refl; of-tiny = refl; of-lines = refl; of-lines-more = refl }
