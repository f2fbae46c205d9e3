-- The content hash and the debug hash with BLAKE3, of any file, header and section (document 01, "Reading", 3 and 5).
use Rattle.std.specs.Prelude.{ℕ, Bool, false, ◌&&◌, ◌||◌, cond, List, ◌++◌, leb, eqb, length}
use Rattle.reading.specs.Fault.{short_input}
use Rattle.reading.specs.Answer.{Got, refused, found, ◌>>=◌, ◌>>◌, need}
use Rattle.format.specs.Faults.{too_long, content_hash_mismatch}
use Rattle.format.specs.Parts.{limit, header_size, Place, is_inside, same}
use Rattle.format.specs.Header.{Directory, Header}
use Rattle.format.specs.Integrity.{masked_header, hashed_string, no_hash}
use Rattle.blake3.specs.Blake3.{blake3, hash_asked}

-- The content hash over its five parts (document 01: "the hash runs over the masked header and these four in that order"): tasks, types, constants, code
abbrev pub content_hash_of : List ℕ → List ℕ → List ℕ → List ℕ → List ℕ → Got (List ℕ)
content_hash_of header tasks types constants code = hash_asked (masked_header header ++ tasks ++ types ++ constants ++ code)

-- The content hash of a file: 10 if it is over the file limit, 1 if it has no whole header, 4 if a section of more than 0 bytes does not lie in the
-- file behind the header, else BLAKE3 of the hashed string
unfoldable pub computed_content_hash : List ℕ → Directory → Got (List ℕ)
computed_content_hash f d = do
  need (leb (length f) limit) too_long
  need (leb header_size (length f)) short_input
  s ← hashed_string f d
  found (blake3 s)

-- Whether a header's content hash is that one. Document 01: "An all-zero content hash is not checked"; then the file is not looked at.
unfoldable pub content_checked : List ℕ → Header → Got (Unit {0})
content_checked f h =
    let checked = computed_content_hash f h.directory >>= λ d. need (same d h.content_hash) content_hash_mismatch in
    cond (no_hash h.content_hash) (found tt) checked

-- Whether a debug hash fits a section: it is the section's hash, or zero (document 01: "zero matches anything"); a section too long to be hashed has no hash.
abbrev pub is_hash : List ℕ → Got (List ℕ) → Bool
is_hash d (refused e) = false
is_hash d (found h) = same h d

unfoldable pub debug_fits : List ℕ → List ℕ → Bool
debug_fits d s = no_hash d || is_hash d (hash_asked s)

-- Used by the code

-- whether a section can be hashed (document 01: "a size of 0 passes with any offset")
unfoldable pub is_hashable : List ℕ → Place → Bool
is_hashable f p = eqb p.size 0 || is_inside f p

abbrev pub all_hashable : List ℕ → Directory → Bool
all_hashable f d = is_hashable f d.tasks && is_hashable f d.types && is_hashable f d.constants && is_hashable f d.code
