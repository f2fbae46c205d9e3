-- The reading algebra. A reader goes from a list of bytes to an item and the bytes behind it, or to a fault. Every section is one.
use Rattle.std.specs.Prelude.{ℕ, zero, suc, Bool, cond, List, [], ◌∷◌, ltb, length, take, drop}
use Rattle.reading.specs.Fault.{Fault, short_input}
use Rattle.reading.specs.Numbers.{le}

pub data Read (A : Type 0) : Type 0 where
  fault : Fault → Read A
  got : A → List ℕ → Read A

abbrev pub Reader : Type 0 → Type 0
Reader A = List ℕ → Read A

abbrev pub next : {A B : Type 0} → Read A → (A → Reader B) → Read B
next (fault f) go = fault f
next (got a rest) go = go a rest

-- `a ← r` and what follows: read an `a` by `r`, and go on behind it
infixl 60 ◌>>=◌ ◌>>◌
abbrev pub ◌>>=◌ : {A B : Type 0} → Reader A → (A → Reader B) → Reader B
◌>>=◌ r go s = next (r s) go

abbrev pub ◌>>◌ : {A B : Type 0} → Reader A → Reader B → Reader B
◌>>◌ r q = r >>= (λ a. q)

-- These read nothing: give `a`; go on if `ok` holds, and else stop with `f`; how many bytes are left

abbrev pub give : {A : Type 0} → A → Reader A
give a s = got a s

abbrev pub check : Bool → Fault → Reader (Unit {0})
check ok f s = cond ok (got tt s) (fault f)

abbrev pub left : Reader ℕ
left s = got (length s) s

-- `n` bytes
unfoldable pub bytes : ℕ → Reader (List ℕ)
bytes n s = cond (ltb (length s) n) (fault short_input) (got (take n s) (drop n s))

-- all the bytes that are left
abbrev pub all_left : Reader (List ℕ)
all_left s = got s []

-- the number that `n` bytes are, low byte first
abbrev pub number : ℕ → Reader ℕ
number n = do
  b ← bytes n
  give (le b)

abbrev pub u8 : Reader ℕ
u8 = number 1

abbrev pub u16 : Reader ℕ
u16 = number 2

abbrev pub u32 : Reader ℕ
u32 = number 4

abbrev pub u64 : Reader ℕ
u64 = number 8

-- `n` items, one behind the other
abbrev pub many : {A : Type 0} → ℕ → Reader A → Reader (List A)
many zero r = give []
many (suc n) r = do
  a ← r
  xs ← many n r
  give (a ∷ xs)

-- a table: a count of two bytes, and as many items
abbrev pub counted : {A : Type 0} → Reader A → Reader (List A)
counted r = do
  n ← u16
  many n r

-- a table that may be left out: fewer than two bytes left mean none, and stay unread
abbrev pub counted_or_none : {A : Type 0} → Reader A → Reader (List A)
counted_or_none r s = cond (ltb (length s) 2) (got [] s) (counted r s)
