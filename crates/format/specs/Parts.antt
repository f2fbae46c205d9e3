-- Parts of a file: a section's place, whether it lies in the file, and how a part of a section is kept.
use Rattle.std.specs.Prelude.{ℕ, ◌+◌, ◌-◌, ◌≤◌, Bool, true, false, ◌&&◌, List, [], ◌∷◌, leb, eqb, length, take, drop}

-- document 01, 10 TooLong: the most bytes a file may have
abbrev pub limit : ℕ
limit = 65536

-- the most bytes of a file that a program takes, whatever the library's limit is
abbrev pub program_limit : ℕ
program_limit = 65536

-- document 01, 10 TooLong, "hash asked alone": the most bytes that may be hashed
abbrev pub hash_limit : ℕ
hash_limit = 261376

-- the bytes of the header
abbrev pub header_size : ℕ
header_size = 256

-- the bytes of a hash
abbrev pub hash_size : ℕ
hash_size = 32

-- `size` bytes from the place `at` on
abbrev pub part : ℕ → ℕ → List ℕ → List ℕ
part at size f = take size (drop at f)

-- the place of a section, or of another part of the file: its offset from the file's start, and its size
pub record Place : Type 0 where
  pub offset : ℕ
  pub size : ℕ

-- the bytes of that part
abbrev pub cut : List ℕ → Place → List ℕ
cut f p = part p.offset p.size f

-- Document 01's "in the file behind the header": not before byte 256 and not past the end, also at size 0
unfoldable pub is_inside : List ℕ → Place → Bool
is_inside f p = leb header_size p.offset && leb (p.offset + p.size) (length f)

-- the same as a fact
pub record Inside (f : List ℕ) (p : Place) : Type 0 where
  pub behind : header_size ≤ p.offset
  pub within : p.offset + p.size ≤ length f

-- two lists of bytes are the same
abbrev pub same : List ℕ → List ℕ → Bool
same [] [] = true
same [] (b ∷ t) = false
same (a ∷ s) [] = false
same (a ∷ s) (b ∷ t) = eqb a b && same s t

-- How a string, a name or a path of a section is kept: a function of its bytes and of how many bytes of the section follow it

abbrev pub Keep : Type 0 → Type 0
Keep T = List ℕ → ℕ → T

-- by its bytes
abbrev pub by_bytes : Keep (List ℕ)
by_bytes bytes behind = bytes

-- by its place in the file, the section being at `section`
abbrev pub by_place : Place → Keep Place
by_place section bytes behind = record { offset = section.offset + section.size - behind - length bytes; size = length bytes }
