-- The values of a refusal, from those that the code keeps.
use mathlib.Core.Path.{◌≡◌, refl}
use mathlib.Core.List.{List, [], ◌∷◌}
use Prim.Native.Nat.{ℕ, ◌≤◌}
use native.Mathlib.Omega.{arith}
use lib.ListN.{length, take}
use Rattle.base.specs.Error.{fault_of, refusal_values, kept_values}
use Rattle.base.specs.declared.error.ContainerError.{ContainerError}
use Rattle.base.specs.declared.error.Values.{Values}
use Rattle.base.specs.contracts.error.ContainerError.{enum as error}
use Rattle.base.proofs.Variants.{every}

-- as many as `count` says
abbrev first_of : Values → List ℕ
first_of v = take v.count (v.first ∷ v.second ∷ [])

listed : (vs : List ℕ) → length vs ≤ 2 → first_of (kept_values vs) ≡ vs
listed [] h = refl
listed (v ∷ []) h = refl
listed (v ∷ w ∷ []) h = refl
listed (v ∷ w ∷ x ∷ vs) h = absurd (omega arith)

-- no refusal names more than two
few : (x : ContainerError) → length (refusal_values (fault_of x)) ≤ 2
few = every error (λ x. length (refusal_values (fault_of x)) ≤ 2) (omega arith) (omega arith)
