-- A loop over the blocks of a chunk: the blocks that are left, from the present chaining value on, give the result.
use Rattle.std.proofs.Common.{◌≡◌, ℕ, zero, suc, ◌+◌, ◌-◌, ◌*◌, ◌<◌, ◌≤◌, List, drop, refl, arith, drop-drop}
use Rattle.compression.specs.Sizes.{block_len}
use Rattle.compression.specs.Word.{words}
use Rattle.compression.specs.Compression.{compress}
use Rattle.compression.specs.Chain.{start_flag, chained}

-- a later block has no flag
pub flag-later : (n : ℕ) → (n ≡ 0 → ⊥) → start_flag n ≡ 0
flag-later zero h = absurd (h refl)
flag-later (suc n) h = refl

module _ (s c : List ℕ) (at n t blocks : ℕ) where
  pub begins : chained (n - 0) c t (blocks + 0) (drop (at + block_len * 0) s) ≡ chained n c t blocks (drop at s)
  begins = let e : n - 0 ≡ n = omega arith in let k : blocks + 0 ≡ blocks = omega arith in let d : at + block_len * 0 ≡ at = omega arith in cc

  pub turn : (i : ℕ) {f : ℕ} {w r : List ℕ} → i < n → f ≡ start_flag (blocks + i) → w ≡ words (drop (at + block_len * i) s) → r ≡ compress c w t block_len f
      → chained (n - (i + 1)) r t (blocks + (i + 1)) (drop (at + block_len * (i + 1)) s) ≡ chained (n - i) c t (blocks + i) (drop (at + block_len * i) s)
  unfolding chained
  turn i p ef ew er =
      let e : n - i ≡ suc (n - (i + 1)) = omega arith in
      let k : blocks + (i + 1) ≡ blocks + i + 1 = omega arith in
      let d : at + block_len * (i + 1) ≡ at + block_len * i + block_len = omega arith in
      cc (drop-drop block_len (at + block_len * i) s)

  pub ends : (i : ℕ) → n ≤ i → c ≡ chained (n - i) c t (blocks + i) (drop (at + block_len * i) s)
  unfolding chained
  ends i p = let e : n - i ≡ 0 = omega arith in rw e
