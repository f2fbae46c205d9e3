-- For a file with a whole header and within the limit, and for a section within the hash's limit, these are the tests that `format` states, with BLAKE3
-- as the hash.
use Rattle.std.specs.Prelude.{ℕ, ◌≤◌, ◌≡◌, List, length}
use Rattle.format.specs.Parts.{limit, header_size, hash_limit}
use Rattle.format.specs.Header.{Header}
use Rattle.format.specs.Integrity.{content_fits, debug_hash_fits}
use Rattle.blake3.specs.Blake3.{blake3}
use Rattle.integrity.specs.Hashes.{content_checked, debug_fits}

pub record Laws : Type 0 where
  pub content : (f : List ℕ) (h : Header) → header_size ≤ length f → length f ≤ limit → content_checked f h ≡ content_fits blake3 f h
  pub debug : (d s : List ℕ) → length s ≤ hash_limit → debug_fits d s ≡ debug_hash_fits blake3 d s
