-- The constant pool (document 01, "Sections", Constants).
use Rattle.std.specs.Prelude.{ℕ, ◌+◌, ◌-◌, Bool, true, cond, List, ◌++◌, leb, ltb, eqb, ℤ, pos, negsuc, length, take, replicate}
use Rattle.reading.specs.Numbers.{le}
use Rattle.reading.specs.Reader.{Reader, ◌>>=◌, ◌>>◌, give, check, left, bytes, u8, u16, counted}
use Rattle.reading.specs.Answer.{Got, refused, found}
use Rattle.format.specs.Faults.{invalid_constant_type}
use Rattle.format.specs.Parts.{Keep}

-- types 0 to 7 are I32, U32, I64, U64, F32, F64, Str and WStr: 0 to 5 are numbers, 6 and 7 strings
abbrev pub is_number : ℕ → Bool
is_number kind = leb kind 5

-- what is kept of a constant: eight bytes of a number, all bytes of a string
pub data Kept (T : Type 0) : Type 0 where
  number : List ℕ → Kept T
  string : T → Kept T

pub record Constant (T : Type 0) : Type 0 where
  pub kind : ℕ
  pub kept : Kept T

-- the same constant with `h` applied to its string
abbrev pub on_kept : {T U : Type 0} → (U → T) → Kept U → Kept T
on_kept h (number b) = number b
on_kept h (string t) = string (h t)

abbrev pub on_constant : {T U : Type 0} → (U → T) → Constant U → Constant T
on_constant h c = record { kind = c.kind; kept = on_kept h c.kept }

-- document 01: "Types 0 to 5 keep 8 bytes, short ones zero-filled at the end"
unfoldable pub kept_of : {T : Type 0} → Keep T → ℕ → List ℕ → ℕ → Kept T
kept_of keep kind body behind = cond (is_number kind) (number (body ++ replicate (8 - length body) 0)) (string (keep body behind))

abbrev pub size_fits : ℕ → ℕ → Bool
size_fits kind size = cond (is_number kind) (leb size 8) true

-- an entry: type 1, width tag 1 (ignored), size 2, bytes
unfoldable pub constant : {T : Type 0} → Keep T → Reader (Constant T)
constant keep = do
  kind ← u8
  width_tag ← u8
  size ← u16
  check (leb kind 7) (invalid_constant_type kind)
  check (size_fits kind size) (invalid_constant_type kind)
  body ← bytes size
  behind ← left
  give (record { kind = kind; kept = kept_of keep kind body behind })

-- the section: count 2, entries
unfoldable pub constants : {T : Type 0} → Keep T → Reader (List (Constant T))
constants keep = counted (constant keep)

-- The getters; an entry of another type than asked gives 9 with the entry's type

-- a number of type `kind`: its first `width` kept bytes, low byte first
abbrev pub number_in : {T : Type 0} → ℕ → ℕ → ℕ → Kept T → Got ℕ
number_in kind width stored (number b) = cond (eqb stored kind) (found (le (take width b))) (refused (invalid_constant_type stored))
number_in kind width stored (string t) = refused (invalid_constant_type stored)

abbrev pub as_number : {T : Type 0} → ℕ → ℕ → Constant T → Got ℕ
as_number kind width c = number_in kind width c.kind c.kept

-- two's complement; `half` is the size of the negative half
abbrev pub signed : ℕ → ℕ → ℤ
signed half n = cond (ltb n half) (pos n) (negsuc (half + half - 1 - n))

-- a string, Str or WStr
abbrev pub string_in : {T : Type 0} → ℕ → Kept T → Got T
string_in stored (number b) = refused (invalid_constant_type stored)
string_in stored (string t) = found t

abbrev pub as_string : {T : Type 0} → Constant T → Got T
as_string c = string_in c.kind c.kept

-- bytes per character: 1 for Str, 2 for WStr
abbrev pub char_width : {T : Type 0} → Constant T → Got ℕ
char_width c = cond (eqb c.kind 6) (found 1) (cond (eqb c.kind 7) (found 2) (refused (invalid_constant_type c.kind)))
