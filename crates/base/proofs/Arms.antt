-- What the last arm of a `match`, `_`, knows: a number is none of those before it; an enum's value is one of the variants that are left.
use Prim.Native.Nat.{ℕ, zero, suc, ◌≤◌}
use native.Mathlib.Omega.{arith}
use mathlib.Core.Path.{◌≡◌, refl}
use mathlib.Core.List.{List, [], ◌∷◌}
use lib.Dec.{leb}
use lib.ListN.{length}
use borrow.Author.Tests.{lt-leb}
use types.Run.{OneOf}
use denote.Enum.Declared.{declared, tag_of}
use Rattle.reading.specs.Fault.{Fault}
use Rattle.reading.specs.Answer.{refused, found, ◌>>◌, need}
use Rattle.base.specs.Error.{fault_of, refusal_values, kept_values, values_of}
use Rattle.base.specs.declared.error.ContainerError.{ContainerError}
use Rattle.base.specs.contracts.error.ContainerError.{enum as error}
use Rattle.base.proofs.Variants.{all_but, last_arm}

-- a number that is none of those below n, in the form in which the arms 0 to n - 1 leave it
abbrev pub Missed : ℕ → ℕ → Type 0
Missed zero v = Unit {0}
Missed (suc n) v = Missed n v × (v ≡ n → ⊥)

missed : (n v : ℕ) → Missed n v → n ≤ v
missed zero v h = omega arith
missed (suc n) v h =
    let least = missed n v h.0 in
    let other = h.1 in
    omega arith

-- kinds are numbered from 0 to `top`: any other number is refused
pub above : (top v : ℕ) (f : Fault) → Missed (suc top) v → refused f ≡ (need (leb v top) f >> found v)
above top v f h = rw (lt-leb v top (missed (suc top) v h))

-- a constant whose type is neither Str nor WStr
abbrev numbers : List ℕ
numbers = 0 ∷ 1 ∷ 2 ∷ 3 ∷ 4 ∷ 5 ∷ []

-- a refusal that names no value: all but those of types, of strides and of indexes
abbrev plain : List ℕ
plain = all_but error (5 ∷ 6 ∷ 7 ∷ 8 ∷ 10 ∷ [])

none_kept : (vs : List ℕ) → 0 ≡ length vs → kept_values [] ≡ kept_values vs
none_kept [] e = refl
none_kept (v ∷ vs) e = absurd (omega arith)

pub no-values : (x : ContainerError) → OneOf plain (tag_of (declared error) x) → kept_values [] ≡ values_of (fault_of x)
no-values x h = none_kept (refusal_values (fault_of x)) (last_arm error plain 0 (λ y. length (refusal_values (fault_of y))) (omega arith) (omega arith) x h)
