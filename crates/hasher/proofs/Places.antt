-- The stack's places and the values that wait.
use mathlib.Core.Path.{◌≡◌, refl, ap, ◌∙◌}
use mathlib.Core.List.{List, [], ◌∷◌, ◌++◌, map, map-append}
use Prim.Native.Nat.{ℕ, zero, suc, ◌+◌, ◌*◌, ◌-◌, ◌^◌, ◌≤◌, ◌<◌, min}
use native.Mathlib.Nat.{zero-add}
use native.Mathlib.Omega.{arith}
use lib.ListN.{length, take, length-map, length-take, length-set}
use lib.Seq.{take-suc-set, take-take}
use lib.Count.{count_trailing_zeros}
use Rattle.compression.specs.Sizes.{chunk_len}
use Rattle.wide.specs.Lanes.{count_bits}
use Rattle.hasher.specs.Hash.{chaining_value, chunk_output}
use Rattle.hasher.specs.Stack.{levels, words_of, values_of, pushed, waiting}
use Rattle.hasher.specs.declared.ChainingValue.{ChainingValue}
use Rattle.hasher.specs.declared.CvStack.{CvStack}
use Rattle.hasher.proofs.Tree.{waiting-bound, push, push-waiting, length_push}

take-map : (n : ℕ) (l : List ChainingValue) → take n (map words_of l) ≡ map words_of (take n l)
take-map zero l = refl
take-map (suc n) [] = refl
take-map (suc n) (v ∷ l) = ap (λ (x : List (List ℕ)). words_of v ∷ x) (take-map n l)

-- the stack has all its places, and holds the values that wait after the chunks of the bytes fs
pub record Waits (s : CvStack) (fs : List ℕ) : Type 0 where
  pub places : length s.values ≡ levels
  pub bound : s.len ≤ levels
  pub values : values_of s ≡ waiting levels 0 fs

module _ (s : CvStack) (fs : List ℕ) (w : Waits s fs) where
  length-values : length (values_of s) ≡ s.len
  length-values = simp (length-map, length-take) (omega arith)

  -- if there is a place, a push on the places is a push on the values
  pushed-values : (k : ℕ) (c : List ℕ) → k ≤ s.len → s.len < levels + k → values_of (pushed s k c) ≡ push k c (values_of s)
  unfolding pushed push
  pushed-values k c h room =
      let place : min s.len levels - k ≡ s.len - k = omega arith in
      let more : min (s.len - k + 1) levels ≡ suc (s.len - k) = omega arith in
      let within : s.len - k ≤ s.len = omega arith in
      let inside : s.len - k < length s.values = omega arith in
      rw (
        place,
        more,
        length-values,
        take-suc-set s.values (s.len - k) _ inside,
        map-append words_of,
        take-map,
        take-take (s.len - k) s.len s.values within,
      )

  -- chunk n, with the bytes cs, is finished
  pub waits-more : (n : ℕ) (cs : List ℕ) → length fs ≡ chunk_len * n → n + 1 < 2 ^ levels → length cs ≡ chunk_len
      → Waits (pushed s (count_trailing_zeros count_bits (n + 1)) (chaining_value (chunk_output n cs))) (fs ++ cs)
  unfolding pushed
  waits-more n cs e few l =
      let k : ℕ = count_trailing_zeros count_bits (n + 1) in
      let c : List ℕ = chaining_value (chunk_output n cs) in
      let step = rw zero-add at (push-waiting count_bits levels 0 n fs cs e few (omega arith) l) in
      let after : push k c (values_of s) ≡ waiting levels 0 (fs ++ cs) = ap (push k c) w.values ∙ step.1 in
      let joins : k ≤ s.len = omega (arith, step.0, ap length w.values, length-values) in
      let room : s.len < levels + k = omega (arith, length_push k c (values_of s), ap length after, waiting-bound levels 0 (fs ++ cs), length-values) in
      record {
        places = length-set s.values _ _ ∙ w.places;
        bound = omega arith;
        values = pushed-values k c joins room ∙ after;
      }
