-- The content hash and the debug hash (document 01, "Reading", 3 and 5). `hash` stands for BLAKE3; nothing here depends on it.
use Rattle.std.specs.Prelude.{ℕ, Bool, ◌||◌, cond, List, [], ◌∷◌, ◌++◌, eqb, replicate}
use Rattle.reading.specs.Numbers.{le_at}
use Rattle.reading.specs.Answer.{Got, found, ◌>>=◌, ◌>>◌, need}
use Rattle.format.specs.Faults.{section_size_mismatch, content_hash_mismatch}
use Rattle.format.specs.Parts.{hash_size, part, Place, cut, is_inside, same}
use Rattle.format.specs.Header.{Directory, Header, without_debug_bit}

-- Document 01's "masked": bit 0x02 cleared, bytes 8 to 39, 72 to 103 and 136 to 191 zeroed
unfoldable pub masked_header : List ℕ → List ℕ
masked_header f =
    part 0 7 f ++ without_debug_bit (le_at 1 f 7) ∷ replicate hash_size 0 ++ part 40 hash_size f ++ replicate hash_size 0 ++ part 104 hash_size f ++ replicate 56 0 ++ part 192 64 f

-- a section's part of the file; 4 if it does not lie in the file behind the header, also at size 0
unfoldable pub section_in : List ℕ → Place → Got (List ℕ)
section_in f p = do
  need (is_inside f p) section_size_mismatch
  found (cut f p)

-- for the hash "a size of 0 passes with any offset"
unfoldable pub hashed_in : List ℕ → Place → Got (List ℕ)
hashed_in f p = cond (eqb p.size 0) (found []) (section_in f p)

-- what the content hash covers: the masked header, then tasks, types, constants and code
unfoldable pub hashed_string : List ℕ → Directory → Got (List ℕ)
hashed_string f d = do
  tasks ← hashed_in f d.tasks
  types ← hashed_in f d.types
  constants ← hashed_in f d.constants
  code ← hashed_in f d.code
  found (masked_header f ++ tasks ++ types ++ constants ++ code)

-- an all-zero hash: not checked
abbrev pub no_hash : List ℕ → Bool
no_hash h = same h (replicate hash_size 0)

unfoldable pub content_fits : (List ℕ → List ℕ) → List ℕ → Header → Got (Unit {0})
content_fits hash f h =
    let checked = hashed_string f h.directory >>= λ s. need (same (hash s) h.content_hash) content_hash_mismatch in
    cond (no_hash h.content_hash) (found tt) checked

-- a debug hash fits its section if it is zero, which "matches anything", or the section's hash
unfoldable pub debug_hash_fits : (List ℕ → List ℕ) → List ℕ → List ℕ → Bool
debug_hash_fits hash debug_hash section = no_hash debug_hash || same (hash section) debug_hash
