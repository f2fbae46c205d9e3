-- Facts of every value of an enum, from its declared variants: a variant added to the enum changes no line here, nor where these laws are used.
use Prim.Native.Nat.{ℕ, zero, suc}
use mathlib.Core.Path.{◌≡◌, refl, subst}
use mathlib.Core.Bool.{Bool, true, false, cond}
use mathlib.Core.Logic.{inl, inr}
use mathlib.Core.List.{List, [], ◌∷◌}
use mir.Val.{has_key}
use types.Run.{OneOf, miss}
use denote.Struct.Field.{Field}
use denote.Struct.Values.{Values}
use denote.Enum.Declared.{Choice, Record, declared, tag_of}

-- a fact of each variant, at any values
abbrev Each : (variants : List (List Field)) → (Choice variants → Type 0) → Type 0
Each [] P = Unit {0}
Each (fields ∷ variants) P = ((v : Values fields) → P (inl v)) × Each variants (λ c. P (inr c))

each : (variants : List (List Field)) (P : Choice variants → Type 0) → Each variants P → (c : Choice variants) → P c
each [] P h c = absurd c
each (fields ∷ variants) P h (inl v) = h.0 v
each (fields ∷ variants) P h (inr c) = each variants (λ c. P (inr c)) h.1 c

-- the same in two parts, of the first n variants and of the others: `omega` takes at most 64 parts of a goal at once, three for each variant
abbrev First : ℕ → (variants : List (List Field)) → (Choice variants → Type 0) → Type 0
First zero variants P = Unit {0}
First (suc n) [] P = Unit {0}
First (suc n) (fields ∷ variants) P = ((v : Values fields) → P (inl v)) × First n variants (λ c. P (inr c))

abbrev Others : ℕ → (variants : List (List Field)) → (Choice variants → Type 0) → Type 0
Others zero variants P = Each variants P
Others (suc n) [] P = Unit {0}
Others (suc n) (fields ∷ variants) P = Others n variants (λ c. P (inr c))

joined : (n : ℕ) (variants : List (List Field)) (P : Choice variants → Type 0) → First n variants P → Others n variants P → Each variants P
joined zero variants P h g = g
joined (suc n) [] P h g = tt
joined (suc n) (fields ∷ variants) P h g = (h.0, joined n variants (λ c. P (inr c)) h.1 g)

-- the positions of all variants but those named, from n on
abbrev from : ℕ → List ℕ → List (List Field) → List ℕ
from n named [] = []
from n named (fields ∷ variants) = cond (has_key named n) (from (suc n) named variants) (n ∷ from (suc n) named variants)

module _ (N : Record) where
  abbrev pub FirstVariants : (N.D → Type 0) → Type 0
  FirstVariants P = First 15 N.parts (λ c. P (N.make c))

  abbrev pub OtherVariants : (N.D → Type 0) → Type 0
  OtherVariants P = Others 15 N.parts (λ c. P (N.make c))

  -- `omega` proves premises of numbers, variant by variant
  pub every : (P : N.D → Type 0) → FirstVariants P → OtherVariants P → (x : N.D) → P x
  every P h g x = subst P (N.eta x) (each N.parts (λ c. P (N.make c)) (joined 15 N.parts (λ c. P (N.make c)) h g) (N.as_values x))

  abbrev pub all_but : List ℕ → List ℕ
  all_but named = from 0 named N.parts

  -- the last arm of a `match`, `_`, knows that the variant is one of those left: there a is right
  pub last_arm : {B : Type 0} (left : List ℕ) (a : B) (f : N.D → B) → FirstVariants (λ x. cond (has_key left (tag_of (declared N) x)) a (f x) ≡ f x)
      → OtherVariants (λ x. cond (has_key left (tag_of (declared N) x)) a (f x) ≡ f x) → (x : N.D) → OneOf left (tag_of (declared N) x) → a ≡ f x
  last_arm {B} left a f h g x o = go (has_key left (tag_of (declared N) x)) refl (every (λ y. cond (has_key left (tag_of (declared N) y)) a (f y) ≡ f y) h g x)
    where
      go : (z : Bool) → has_key left (tag_of (declared N) x) ≡ z → cond z a (f x) ≡ f x → a ≡ f x
      go true e p = p
      go false e p = absurd (miss left (tag_of (declared N) x) (rw e tt) o)
