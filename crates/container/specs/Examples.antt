-- Neither half of demand 3 is vacuous, BLAKE3 being the hash: format's examples, and the mill file M of document 01 with hashes.
use Rattle.std.specs.Prelude.{ℕ, ◌≡◌, false, List, [], ◌∷◌, ◌++◌, pos, length, replicate}
use Rattle.reading.specs.Answer.{refused, found}
use Rattle.format.specs.Faults.{content_hash_mismatch}
use Rattle.format.specs.Integrity.{no_hash}
use Rattle.format.specs.Load.{Loaded, load}
use Rattle.format.specs.RunSide.{SameRunSide}
use Rattle.format.specs.UnknownTables.{TablesAdded}
use Rattle.format.specs.Examples.{pair, header, tasks, types, constants, code_with, lines, lines_more, tiny_with, hashed, paste_limit, line_at, last_line, FirstHalfNotVacuous, TypesPremiseNeeded, EmptyCodePlaceNeeded, SecondHalfNotVacuous}
use Rattle.blake3.specs.Blake3.{blake3}

-- M's content hash, and the hashes of its debug section and of the one with an unknown table
abbrev pub content_digest : List ℕ
content_digest =
    0x00 ∷ 0x24 ∷ 0xF7 ∷ 0x19 ∷ 0x37 ∷ 0x41 ∷ 0x76 ∷ 0x74 ∷ 0xE5 ∷ 0xF7 ∷ 0x2A ∷ 0xF1 ∷ 0xB9 ∷ 0x4A ∷ 0x95 ∷ 0xB8
    ∷ 0xAF ∷ 0xC5 ∷ 0x08 ∷ 0xE5 ∷ 0x43 ∷ 0x83 ∷ 0xC5 ∷ 0x70 ∷ 0xA9 ∷ 0xD7 ∷ 0xA1 ∷ 0x22 ∷ 0xC8 ∷ 0xDC ∷ 0x2B ∷ 0xC8 ∷ []

abbrev pub lines_digest : List ℕ
lines_digest =
    0xF7 ∷ 0x11 ∷ 0xE0 ∷ 0x8A ∷ 0x11 ∷ 0x52 ∷ 0x73 ∷ 0x7E ∷ 0x26 ∷ 0x2F ∷ 0xCF ∷ 0xEC ∷ 0xA6 ∷ 0x90 ∷ 0x4D ∷ 0x54
    ∷ 0x00 ∷ 0xBF ∷ 0x79 ∷ 0xD1 ∷ 0x07 ∷ 0x4F ∷ 0x55 ∷ 0xE7 ∷ 0xDE ∷ 0xB3 ∷ 0xAF ∷ 0x70 ∷ 0x02 ∷ 0x59 ∷ 0xC6 ∷ 0x46 ∷ []

abbrev pub lines_more_digest : List ℕ
lines_more_digest =
    0x25 ∷ 0x25 ∷ 0xF0 ∷ 0x91 ∷ 0x5C ∷ 0x00 ∷ 0x8E ∷ 0xAB ∷ 0x42 ∷ 0xC8 ∷ 0x91 ∷ 0x80 ∷ 0xA0 ∷ 0x84 ∷ 0x76 ∷ 0x18
    ∷ 0xDE ∷ 0xB0 ∷ 0x42 ∷ 0x6A ∷ 0x7D ∷ 0xB4 ∷ 0x9B ∷ 0x39 ∷ 0x9C ∷ 0xC4 ∷ 0x9E ∷ 0xBA ∷ 0x16 ∷ 0xA3 ∷ 0x5B ∷ 0xD4 ∷ []

-- the content hash of format's tiny file
abbrev pub tiny_digest : List ℕ
tiny_digest =
    0x5F ∷ 0xF0 ∷ 0x78 ∷ 0x4B ∷ 0xC5 ∷ 0x9E ∷ 0x5D ∷ 0x9B ∷ 0x7C ∷ 0x7A ∷ 0x28 ∷ 0x93 ∷ 0x3F ∷ 0x96 ∷ 0xA3 ∷ 0xF1
    ∷ 0xA1 ∷ 0xF0 ∷ 0xBB ∷ 0x86 ∷ 0xFF ∷ 0xC5 ∷ 0xC6 ∷ 0x67 ∷ 0x24 ∷ 0x63 ∷ 0xD1 ∷ 0x18 ∷ 0xA4 ∷ 0x2C ∷ 0x8B ∷ 0x60 ∷ []

-- M with its content hash, and a debug section with its hash
abbrev pub mill_hashed : List ℕ → List ℕ → List ℕ
mill_hashed debug_hash debug =
    header 6 content_digest debug_hash (pair 310 16 ++ pair 256 54 ++ pair 326 16 ++ pair 342 21 ++ pair 363 (length debug)) 1
    ++ tasks ++ types ++ constants ++ code_with 0 ++ debug

abbrev pub hashed_mill : List ℕ
hashed_mill = mill_hashed lines_digest lines

abbrev pub hashed_mill_more : List ℕ
hashed_mill_more = mill_hashed lines_more_digest lines_more

-- the same content without debug, its sections in another order after three other bytes, with some debug hash
abbrev pub hashed_stripped : List ℕ
hashed_stripped =
    header 4 content_digest (replicate 32 7) (pair 296 16 ++ pair 312 54 ++ pair 280 16 ++ pair 259 21 ++ pair 0 0) 1
    ++ 1 ∷ 2 ∷ 3 ∷ code_with 0 ++ constants ++ types ++ tasks

-- hashed files that meet the first half's premises
pub record HashedRun (hash : List ℕ → List ℕ) : Type 0 where
  pub checked : no_hash content_digest ≡ false
  pub premises : SameRunSide hashed_mill hashed_stripped
  pub first-answer : paste_limit hash hashed_mill ≡ found (pos 270)
  pub second-answer : paste_limit hash hashed_stripped ≡ found (pos 270)

-- hashed files that meet the second half's premises
pub record HashedDebug (hash : List ℕ → List ℕ) : Type 0 where
  pub checked : (no_hash lines_digest ≡ false) × (no_hash lines_more_digest ≡ false)
  pub first : Loaded
  pub second : Loaded
  pub first-loads : load hash hashed_mill ≡ found first
  pub second-loads : load hash hashed_mill_more ≡ found second
  pub premises : TablesAdded hash hashed_mill first.header hashed_mill_more second.header
  pub first-answer : line_at hash hashed_mill 0 3 ≡ found last_line
  pub second-answer : line_at hash hashed_mill_more 0 3 ≡ found last_line

-- the tiny file with its own content hash loads, and with another, 32 ones, it is refused with 5
pub record HashDecides (hash : List ℕ → List ℕ) : Type 0 where
  pub own : (l : Loaded) × (load hash (tiny_with tiny_digest 264) ≡ found l)
  pub other : load hash hashed ≡ refused content_hash_mismatch

pub record Examples : Type 0 where
  pub hashed-run : HashedRun blake3
  pub hashed-debug : HashedDebug blake3
  pub hash-decides : HashDecides blake3
  pub first-half-not-vacuous : FirstHalfNotVacuous blake3
  pub types-premise-needed : TypesPremiseNeeded blake3
  pub empty-code-place-needed : EmptyCodePlaceNeeded blake3
  pub second-half-not-vacuous : SecondHalfNotVacuous blake3
