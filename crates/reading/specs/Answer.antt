-- What reading a file and every lookup give: a refusal, or what was asked for.
use Rattle.std.specs.Prelude.{ℕ, zero, suc, Bool, cond, List, [], ◌∷◌}
use Rattle.std.proofs.Math.Option.{Option, none, some}
use Rattle.reading.specs.Fault.{Fault}
use Rattle.reading.specs.Reader.{Read, fault, got}

pub data Got (A : Type 0) : Type 0 where
  refused : Fault → Got A
  found : A → Got A

-- `a ← x` and what follows: the first refusal decides
infixl 60 ◌>>=◌ ◌>>◌
abbrev pub ◌>>=◌ : {A B : Type 0} → Got A → (A → Got B) → Got B
◌>>=◌ (refused f) go = refused f
◌>>=◌ (found a) go = go a

abbrev pub ◌>>◌ : {A B : Type 0} → Got A → Got B → Got B
◌>>◌ x y = x >>= (λ a. y)

-- goes on if the test holds, and refuses if not
abbrev pub need : Bool → Fault → Got (Unit {0})
need ok f = cond ok (found tt) (refused f)

-- the item at the head of a section; the bytes behind it are left unread
abbrev pub item_of : {A : Type 0} → Read A → Got A
item_of (fault f) = refused f
item_of (got a rest) = found a

-- the entry at an index; `out` where the index is not below the count
abbrev pub indexed : {A : Type 0} → Fault → List A → ℕ → Got A
indexed out [] i = refused out
indexed out (a ∷ xs) zero = found a
indexed out (a ∷ xs) (suc i) = indexed out xs i

-- what is there, or `out` where there is none
abbrev pub present : {A : Type 0} → Fault → Option A → Got A
present out none = refused out
present out (some a) = found a
