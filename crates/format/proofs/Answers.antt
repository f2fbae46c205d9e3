-- Laws of answers, one after the other.
use Prim.Native.Nat.{ℕ}
use mathlib.Core.Path.{◌≡◌, refl, sym, ap}
use mathlib.Core.Bool.{Bool, true, false, ◌&&◌}
use mathlib.Core.List.{List}
use mathlib.Core.Option.{none, some}
use native.Mathlib.Omega.{arith}
use Rattle.reading.specs.Fault.{Fault}
use Rattle.reading.specs.Reader.{Read, fault, got}
use Rattle.reading.specs.Answer.{Got, refused, found, ◌>>=◌, need, item_of}

pub never : {A B : Type 0} {r : Fault} {a : A} → refused r ≡ found a → B
never e = absurd (let z : ◌≡◌ {A = ℕ} 0 1 = cc in omega arith)

pub absent : {A B : Type 0} {a : A} → none ≡ some a → B
absent e = absurd (let z : ◌≡◌ {A = ℕ} 0 1 = cc in omega arith)

pub same-found : {A : Type 0} {a b : A} → found a ≡ found b → a ≡ b
same-found e = cc

pub same_some : {A : Type 0} {a b : A} → some a ≡ some b → a ≡ b
same_some e = cc

-- what a `>>=` that finds has found first
pub record Found {A B : Type 0} (x : Got A) (k : A → Got B) (b : B) : Type 0 where
  pub item : A
  pub first : x ≡ found item
  pub second : k item ≡ found b

pub steps : {A B : Type 0} (x : Got A) {k : A → Got B} {b : B} → (x >>= k) ≡ found b → Found x k b
steps (refused r) e = never e
steps (found a) e = record { item = a; first = refl; second = e }

pub needed : (t : Bool) (r : Fault) {u : Unit {0}} → need t r ≡ found u → t ≡ true
needed true r e = refl
needed false r e = never e

-- a step after another, and a step after a renaming of what was found
pub assoc : {A B C : Type 0} (x : Got A) (g : A → Got B) (k : B → Got C) → ((x >>= g) >>= k) ≡ (x >>= λ a. (g a >>= k))
assoc (refused r) g k = refl
assoc (found a) g k = refl

pub renamed : {A B C : Type 0} (m : A → B) (g : B → Got C) (k : A → Got C) → ((a : A) → g (m a) ≡ k a) → (x : Got A) → ((x >>= λ a. found (m a)) >>= g) ≡ (x >>= k)
renamed m g k e (refused r) = refl
renamed m g k e (found a) = e a

-- both parts of a test
pub first_of : (s t : Bool) → s && t ≡ true → s ≡ true
first_of true t e = refl
first_of false t e = e

pub second-of : (s t : Bool) → s && t ≡ true → t ≡ true
second-of true t e = e
second-of false t e = absurd (let z : ◌≡◌ {A = ℕ} 0 1 = cc in omega arith)

-- an answer made of another: of what both begin with, a refusal is the refusal of either
pub refused-then : {A B C : Type 0} (x : Got A) (m : A → B) (g : A → Got C) (f : Fault) → refused f ≡ (x >>= λ a. found (m a)) → refused f ≡ (x >>= g)
refused-then (refused r) m g f h = cc
refused-then (found a) m g f h = never h

pub found-then : {A B C : Type 0} (x : Got A) (m : A → B) (g : B → C) (b : B) → found b ≡ (x >>= λ a. found (m a)) → found (g b) ≡ (x >>= λ a. found (g (m a)))
found-then (refused r) m g b h = never (sym h)
found-then (found a) m g b h = let z : b ≡ m a = cc in ap (λ v. found (g v)) z

-- the first answer decides, or the second is asked of it
pub refused-first : {A B C : Type 0} (x : Got A) (k : A → Got B) (g : A → B → Got C) (f : Fault) → (x >>= k) ≡ refused f → refused f ≡ (x >>= λ a. (k a >>= g a))
refused-first (refused r) k g f h = cc
refused-first (found a) k g f h = rw h

pub found_first : {A B C : Type 0} (x : Got A) (k : A → Got B) (g : B → Got C) (b : B) → (x >>= k) ≡ found b → g b ≡ (x >>= λ a. (k a >>= g))
found_first (refused r) k g b h = never h
found_first (found a) k g b h = rw h

-- what a section whose item is found has read
pub item-got : {A : Type 0} (x : Read A) (a : A) → item_of x ≡ found a → (rest : List ℕ) × (x ≡ got a rest)
item-got (fault f) a e = never e
item-got (got b rest) a e = (rest, ap (λ v. got v rest) (same-found e))
