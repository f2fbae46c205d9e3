-- BLAKE3 in hash mode, 32 bytes out. Asked alone it refuses more than `hash_limit` bytes with 10 (document 01: "hash asked alone").
use Rattle.std.specs.Prelude.{ℕ, List, Result, Ok, Err, leb, length}
use Rattle.reading.specs.Numbers.{word_bytes}
use Rattle.reading.specs.Answer.{Got, refused, found, ◌>>◌, need}
use Rattle.format.specs.Faults.{too_long}
use Rattle.format.specs.Parts.{hash_limit}
use Rattle.base.specs.Error.{fault_of}
use Rattle.base.specs.Digest.{digest_bytes}
use Rattle.base.specs.declared.digest.Digest.{Digest}
use Rattle.base.specs.declared.error.ContainerError.{ContainerError}
use Rattle.hasher.specs.Hash.{hash_words}
use Rattle.hasher.specs.State.{fill, finished}
use Rattle.hasher.specs.declared.Hasher.{Hasher}

-- the digest's 32 bytes
abbrev pub blake3 : List ℕ → List ℕ
blake3 bs = word_bytes (hash_words bs)

unfoldable pub hash_asked : List ℕ → Got (List ℕ)
hash_asked bs = need (leb (length bs) hash_limit) too_long >> found (blake3 bs)

-- the digest of what a state has taken in, with the same refusal
unfoldable pub finish_asked : Hasher → Got (List ℕ)
finish_asked h = need (leb (fill h) hash_limit) too_long >> found (word_bytes (finished h))
