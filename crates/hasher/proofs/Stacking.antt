-- The stack, one join at a time. Assumes nothing.
use mathlib.Core.Path.{◌≡◌, refl, sym, ap, ◌∙◌}
use mathlib.Core.List.{List, [], ◌∷◌, map, reverse}
use mathlib.Core.Bool.{Bool, true, false}
use mathlib.Core.Logic.{◌⊎◌, inl, inr, ⊎_elim}
use Prim.Native.Nat.{ℕ, ◌+◌, ◌-◌, ◌≤◌, ◌<◌, min}
use native.Mathlib.Omega.{arith}
use lib.ListN.{length, take, drop, set}
use lib.Dec.{ltb}
use lib.Seq.{set_out, take_all}
use Rattle.std.specs.List.{fold}
use Rattle.std.proofs.lemmas.List.{reverse-append, drop-take, drop-map}
use Rattle.std.proofs.lemmas.List.Sums.{fold-append}
use borrow.Author.Tests.{ltb-true, ltb-false}
use Rattle.hasher.specs.Hash.{chaining_value, parent_output}
use Rattle.hasher.specs.Stack.{levels, words_of, values_of, joined, under, pushed}
use Rattle.hasher.specs.declared.Output.{Output}
use Rattle.hasher.specs.declared.ChainingValue.{ChainingValue}
use Rattle.hasher.specs.declared.CvStack.{CvStack}

by-test : (a b : ℕ) (t : Bool) → ltb a b ≡ t → (a < b) ⊎ (b ≤ a)
by-test a b true e = inl (ltb-true a b e)
by-test a b false e = inr (ltb-false a b e)

pub lt-or-le : (a b : ℕ) → (a < b) ⊎ (b ≤ a)
lt-or-le a b = by-test a b (ltb a b) refl

-- ---- joins of the values in a list, the newest of them first

pub joined-fold : (c : List ℕ) (vs : List ChainingValue) → fold (λ r v. chaining_value (parent_output (words_of v) r)) c (reverse vs) ≡ joined c (map words_of vs)
unfolding joined
joined-fold c [] = refl
joined-fold c (v ∷ vs) = rw (reverse-append (v ∷ []) vs, fold-append) (ap (λ (r : List ℕ). chaining_value (parent_output v.words r)) (joined-fold c vs))

pub under-fold : (o : Output) (vs : List ChainingValue) → fold (λ r v. parent_output (words_of v) (chaining_value r)) o (reverse vs) ≡ under o (map words_of vs)
unfolding under
under-fold o [] = refl
under-fold o (v ∷ vs) = rw (reverse-append (v ∷ []) vs, fold-append) (ap (λ (r : Output). parent_output v.words (chaining_value r)) (under-fold o vs))

-- no more values wait than there are places
pub places : (w : ℕ) (vs : List ChainingValue) → length vs ≡ levels → take (min w levels) vs ≡ take w vs
places w vs h =
    ⊎_elim
    (λ (p : w < levels). let e : min w levels ≡ w = omega arith in rw e)
    (λ (p : levels ≤ w). let e : min w levels ≡ levels = omega arith in rw e (take_all levels vs (omega arith) ∙ sym (take_all w vs (omega arith))))
    (lt-or-le w levels)

-- the newest values, of which p are older
pub newest : (s : CvStack) (p m : ℕ) → length s.values ≡ levels → p + m ≡ min s.len levels → map words_of (take m (drop p s.values)) ≡ drop p (values_of s)
newest s p m h e =
    ap (map words_of) (sym (drop-take p m s.values) ∙ ap (λ (n : ℕ). drop p (take n s.values)) e ∙ ap (drop p) (places s.len s.values h))
    ∙ sym (drop-map words_of p (take s.len s.values))

-- ---- the push after the joins, which leave n values

module _ (s : CvStack) (joins n : ℕ) (c v : List ℕ) (h : length s.values ≡ levels) (e : n ≡ min s.len levels - joins)
    (q : v ≡ joined c (drop n (values_of s))) where
  pub push-stored : ◌≡◌ {A = CvStack} (record { values = set s.values n (record { words = v }); len = min (n + 1) levels }) (pushed s joins c)
  unfolding pushed
  push-stored = cc

  pub push-lost : levels ≤ n → ◌≡◌ {A = CvStack} (record { values = s.values; len = min (n + 1) levels }) (pushed s joins c)
  unfolding pushed
  push-lost l = cc (set_out s.values (min s.len levels - joins) (record { words = joined c (drop (min s.len levels - joins) (values_of s)) }) (omega arith))
