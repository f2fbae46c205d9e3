-- The tree and the values that wait.
use mathlib.Core.Path.{◌≡◌, refl, ap, ◌∙◌}
use mathlib.Core.List.{List, [], ◌∷◌, ◌++◌}
use Prim.Native.Nat.{ℕ, zero, suc, ◌+◌, ◌*◌, ◌-◌, ◌^◌, ◌≤◌, ◌<◌, zero-le}
use native.Mathlib.Omega.{arith}
use native.Mathlib.Decide.{le_ind, dec_lt}
use lib.ListN.{length, take, drop, length-append, length-take, length-drop, drop_of_length-le}
use lib.Seq.{take-append-le, drop-append-le, take_all}
use lib.Count.{count_trailing_zeros}
use lib.Pow.{pow_pos, pow_mono}
use borrow.Author.Tests.{le-leb, lt-leb, lt-ltb, le-ltb}
use Rattle.compression.specs.Sizes.{chunk_len}
use Rattle.hasher.specs.Tree.{node}
use Rattle.hasher.specs.Hash.{chaining_value, parent_output, chunk_output}
use Rattle.hasher.specs.Stack.{joined, under, waiting}
use Rattle.hasher.specs.declared.Output.{Output}
use Rattle.hasher.proofs.Zeros.{zeros-pow, zeros-add}

-- the tree from chunk t on
abbrev pub tree_from : ℕ → ℕ → List ℕ → Output
tree_from d t bs = node chunk_output parent_output chaining_value d t bs

-- ---- the two cases of each definition
tree-small : (d t : ℕ) (bs : List ℕ) → length bs ≤ chunk_len * 2 ^ d → tree_from (suc d) t bs ≡ tree_from d t bs
unfolding node
tree-small d t bs h = rw (le-leb (length bs) (chunk_len * 2 ^ d) h)

pub tree-large : (d t : ℕ) (bs : List ℕ) → chunk_len * 2 ^ d < length bs
    → tree_from (suc d) t bs ≡ parent_output (chaining_value (tree_from d t (take (chunk_len * 2 ^ d) bs))) (chaining_value (tree_from d (t + 2 ^ d) (drop (chunk_len * 2 ^ d) bs)))
unfolding node
tree-large d t bs h = rw (lt-leb (length bs) (chunk_len * 2 ^ d) h)

waiting-small : (d t : ℕ) (fs : List ℕ) → length fs < chunk_len * 2 ^ d → waiting (suc d) t fs ≡ waiting d t fs
unfolding waiting
waiting-small d t fs h = rw (lt-ltb (length fs) (chunk_len * 2 ^ d) h)

waiting-large : (d t : ℕ) (fs : List ℕ) → chunk_len * 2 ^ d ≤ length fs
    → waiting (suc d) t fs ≡ chaining_value (tree_from d t (take (chunk_len * 2 ^ d) fs)) ∷ waiting d (t + 2 ^ d) (drop (chunk_len * 2 ^ d) fs)
unfolding waiting
waiting-large d t fs h = rw (le-ltb (length fs) (chunk_len * 2 ^ d) h)

-- if no chunk is finished, no value waits
pub waiting_none : (d t : ℕ) → waiting d t [] ≡ []
unfolding waiting
waiting_none zero t = refl
waiting_none (suc d) t = waiting-small d t [] (omega (arith, pow_pos d)) ∙ waiting_none d t

-- any depth that is large enough gives the same tree
pub tree-deeper : (d e t : ℕ) (bs : List ℕ) → length bs ≤ chunk_len * 2 ^ d → d ≤ e → tree_from e t bs ≡ tree_from d t bs
tree-deeper d e t bs h l =
    le_ind (λ (m : ℕ). tree_from m t bs ≡ tree_from d t bs) refl
    (λ m k q. tree-small m t bs (omega (arith, pow_mono k)) ∙ q) e l

-- at most one chunk
tree-none : (t : ℕ) (bs : List ℕ) → tree_from 0 t bs ≡ chunk_output t bs
unfolding node
tree-none t bs = refl

pub tree-chunk : (e t : ℕ) (bs : List ℕ) → length bs ≤ chunk_len → tree_from e t bs ≡ chunk_output t bs
tree-chunk e t bs h = tree-deeper 0 e t bs (omega arith) (omega arith) ∙ tree-none t bs

-- ---- the tree is the current chunk joined with the values that wait
under-cons : (o : Output) (v : List ℕ) (s : List (List ℕ)) → under o (v ∷ s) ≡ parent_output v (chaining_value (under o s))
unfolding under
under-cons o v s = refl

none-waiting : (t n : ℕ) (cs : List ℕ) → t + n ≡ t → under (chunk_output (t + n) cs) (waiting 0 t []) ≡ tree_from 0 t cs
unfolding waiting under node
none-waiting t n cs e = ap (λ (m : ℕ). chunk_output m cs) e

pub under-waiting : (d t n : ℕ) (fs cs : List ℕ) → length fs ≡ chunk_len * n → n < 2 ^ d → length cs ≤ chunk_len → (0 < n → 0 < length cs)
    → under (chunk_output (t + n) cs) (waiting d t fs) ≡ tree_from d t (fs ++ cs)
under-waiting zero t n [] cs e h l p = none-waiting t n cs (omega arith)
under-waiting zero t n (x ∷ fs) cs e h l p = absurd (omega arith)
under-waiting (suc d) t n fs cs e h l p =
    let both = length-append fs cs in
    elim (dec_lt n (2 ^ d)) [
      | yes q ↦ rw (waiting-small d t fs (omega arith), tree-small d t (fs ++ cs) (omega arith)) (under-waiting d t n fs cs e q l p)
      | no q ↦
          let big : chunk_len * 2 ^ d ≤ length fs = omega arith in
          let more : chunk_len * 2 ^ d < length (fs ++ cs) = omega (arith, p (omega (arith, pow_pos d))) in
          let rest =
          under-waiting d (t + 2 ^ d) (n - 2 ^ d) (drop (chunk_len * 2 ^ d) fs) cs (omega (arith, length-drop (chunk_len * 2 ^ d) fs)) (omega arith) l (λ z. p (omega arith)) in
          let at : t + n ≡ t + 2 ^ d + (n - 2 ^ d) = omega arith in
          let above : under (chunk_output (t + n) cs) (waiting d (t + 2 ^ d) (drop (chunk_len * 2 ^ d) fs)) ≡ tree_from d (t + 2 ^ d) (drop (chunk_len * 2 ^ d) fs ++ cs) = rw at rest in
          rw (waiting-large d t fs big, tree-large d t (fs ++ cs) more, take-append-le (chunk_len * 2 ^ d) fs cs big, drop-append-le (chunk_len * 2 ^ d) fs cs big)
          (under-cons _ _ _ ∙ ap (λ (o : Output). parent_output (chaining_value (tree_from d t (take (chunk_len * 2 ^ d) fs))) (chaining_value o)) above)
    ]

-- ---- how many values wait: one for each set bit of the count, so at most d for fewer than 2 ^ d chunks
pub waiting-bound : (d t : ℕ) (fs : List ℕ) → length (waiting d t fs) ≤ d
unfolding waiting
waiting-bound zero t fs = zero-le
waiting-bound (suc d) t fs = elim (dec_lt (length fs) (chunk_len * 2 ^ d)) [
  | yes q ↦ omega (arith, ap length (waiting-small d t fs q), waiting-bound d t fs)
  | no q ↦ omega (arith, ap length (waiting-large d t fs (omega arith)), waiting-bound d (t + 2 ^ d) (drop (chunk_len * 2 ^ d) fs))
]

waiting-full : (d t n : ℕ) (fs : List ℕ) → length fs ≡ chunk_len * n → n + 1 ≡ 2 ^ d → length (waiting d t fs) ≡ d
unfolding waiting
waiting-full zero t n fs e h = refl
waiting-full (suc d) t n fs e h =
    let big : chunk_len * 2 ^ d ≤ length fs = omega (arith, pow_pos d) in
    ap length (waiting-large d t fs big)
    ∙ ap suc (waiting-full d (t + 2 ^ d) (n - 2 ^ d) (drop (chunk_len * 2 ^ d) fs) (omega (arith, length-drop (chunk_len * 2 ^ d) fs)) (omega (arith, pow_pos d)))

-- ---- a push with as many joins as the new count, a number of w bits, has trailing zeros gives the values that wait then

-- c is joined with the k newest of s, and the result is pushed
unfoldable pub push : ℕ → List ℕ → List (List ℕ) → List (List ℕ)
push k c s = take (length s - k) s ++ (joined c (drop (length s - k) s) ∷ [])

push-cons : (k : ℕ) (c v : List ℕ) (s : List (List ℕ)) → k ≤ length s → push k c (v ∷ s) ≡ v ∷ push k c s
unfolding push
push-cons k c v s h =
    let less : suc (length s) - k ≡ suc (length s - k) = omega arith in
    rw less

push-all : (k : ℕ) (c : List ℕ) (s : List (List ℕ)) → length s ≡ k → push k c s ≡ joined c s ∷ []
unfolding push
push-all k c s e =
    let none : length s - k ≡ 0 = omega arith in
    rw none

joined-under : (n : Output) (s : List (List ℕ)) → joined (chaining_value n) s ≡ chaining_value (under n s)
unfolding joined under
joined-under n [] = refl
joined-under n (v ∷ s) = ap (λ (c : List ℕ). chaining_value (parent_output v c)) (joined-under n s)

pub push-waiting : (w d t n : ℕ) (fs cs : List ℕ) → length fs ≡ chunk_len * n → n + 1 < 2 ^ d → d ≤ w → length cs ≡ chunk_len
    → (count_trailing_zeros w (n + 1) ≤ length (waiting d t fs))
    × (push (count_trailing_zeros w (n + 1)) (chaining_value (chunk_output (t + n) cs)) (waiting d t fs) ≡ waiting d t (fs ++ cs))
push-waiting w zero t n fs cs e h v l = absurd (omega arith)
push-waiting w (suc d) t n fs cs e h v l =
    let both = length-append fs cs in
    elim (dec_lt (n + 1) (2 ^ d)) [
      | yes q ↦
          rw (waiting-small d t fs (omega arith), waiting-small d t (fs ++ cs) (omega arith)) (push-waiting w d t n fs cs e q (omega arith) l)
      | no q ↦ elim (dec_lt (2 ^ d) (n + 1)) [
        | yes r ↦
            let big : chunk_len * 2 ^ d ≤ length fs = omega arith in
            let rest =
            push-waiting w d (t + 2 ^ d) (n - 2 ^ d) (drop (chunk_len * 2 ^ d) fs) cs (omega (arith, length-drop (chunk_len * 2 ^ d) fs)) (omega arith) (omega arith) l in
            let above : n + 1 ≡ 2 ^ d + (n - 2 ^ d + 1) = omega arith in
            let at : t + n ≡ t + 2 ^ d + (n - 2 ^ d) = omega arith in
            rw (
              waiting-large d t fs big,
              waiting-large d t (fs ++ cs) (omega arith),
              take-append-le (chunk_len * 2 ^ d) fs cs big,
              drop-append-le (chunk_len * 2 ^ d) fs cs big,
              above,
              zeros-add w d (n - 2 ^ d + 1) (omega arith) (omega arith),
              at,
              push-cons _ _ _ _ rest.0,
              rest.1,
            ) (omega (arith, rest.0), refl)
        | no r ↦
            let whole : n + 1 ≡ 2 ^ d = omega arith in
            let full = waiting-full d t n fs e whole in
            let root = under-waiting d t n fs cs e (omega arith) (omega arith) (λ z. omega arith) in
            rw (
              waiting-small d t fs (omega arith),
              whole,
              zeros-pow w d (omega arith),
              waiting-large d t (fs ++ cs) (omega arith),
              take_all (chunk_len * 2 ^ d) (fs ++ cs) (omega arith),
              drop_of_length-le (fs ++ cs) {i = chunk_len * 2 ^ d} (omega arith),
              waiting_none d (t + 2 ^ d),
              push-all d _ _ full,
              joined-under,
              root,
            ) (omega arith, refl)
      ]
    ]

pub length_push : (k : ℕ) (c : List ℕ) (s : List (List ℕ)) → length (push k c s) ≡ length s - k + 1
unfolding push
length_push k c s = simp (length-append, length-take) (omega arith)
