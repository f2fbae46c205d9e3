-- Lanes filled one after the other, and the blocks of a lane's chunk.
use Rattle.std.proofs.Common.{◌≡◌, ℕ, ◌+◌, ◌-◌, ◌*◌, ◌<◌, ◌≤◌, List, drop, sym, ap, ◌∙◌, arith, drop-drop}
use Rattle.compression.specs.Sizes.{block_len, chunk_len, last_block}
use Rattle.compression.specs.Word.{words}
use Rattle.compression.specs.Compression.{compress, chunk_end}
use Rattle.compression.specs.Chain.{start_flag, chained}
use Rattle.compression.proofs.Chain.{begins, turn, ends}
use Rattle.wide.specs.Lanes.{lane, counter_after, chunk_value}

-- lane j of h, compressed
abbrev pub one : (h : List (List ℕ)) (s : List ℕ) (t flags j : ℕ) → List ℕ
one h s t flags j = compress (lane h j) (words (drop (chunk_len * j) s)) (counter_after t j) block_len flags

-- ---- the blocks of the chunk in lane j
module _ (s : List ℕ) (t j : ℕ) where
  -- what the blocks after the first b make of the chaining value c
  abbrev pub left : ℕ → List ℕ → List ℕ
  left b c = chained (last_block - b) c (counter_after t j) (0 + b) (drop (chunk_len * j + block_len * b) s)

  abbrev pub all : List ℕ → List ℕ
  all c = chained last_block c (counter_after t j) 0 (drop (chunk_len * j) s)

  pub left-all : (c : List ℕ) → left 0 c ≡ all c
  left-all c = begins s c (chunk_len * j) last_block (counter_after t j) 0

  -- where lane j's block b starts, by the part of s that starts with lane 0's
  block_at : (b : ℕ) → words (drop (chunk_len * j) (drop (block_len * b) s)) ≡ words (drop (chunk_len * j + block_len * b) s)
  block_at b =
      let d : block_len * b + chunk_len * j ≡ chunk_len * j + block_len * b = omega arith in
      ap words (drop-drop (chunk_len * j) (block_len * b) s ∙ ap (λ (n : ℕ). drop n s) d)

  pub left_less : (b : ℕ) (c : List ℕ) {r : List ℕ} {f : ℕ} → b < last_block → f ≡ start_flag b
      → r ≡ compress c (words (drop (chunk_len * j) (drop (block_len * b) s))) (counter_after t j) block_len f → left (b + 1) r ≡ left b c
  left_less b c p ef er =
      let k : 0 + b ≡ b = omega arith in
      turn s c (chunk_len * j) last_block (counter_after t j) 0 b p (ef ∙ ap start_flag (sym k)) (block_at b) er

  -- the last block
  pub last : (b : ℕ) (c : List ℕ) {c₀ v r : List ℕ} → last_block ≤ b → left b c ≡ all c₀ → c₀ ≡ v
      → r ≡ compress c (words (drop (chunk_len * j) (drop (block_len * last_block) s))) (counter_after t j) block_len chunk_end → r ≡ chunk_value v (counter_after t j) (drop (chunk_len * j) s)
  unfolding chunk_value
  last b c p el ev er =
      cc (
        block_at last_block,
        ends s c (chunk_len * j) last_block (counter_after t j) 0 b p,
        drop-drop (block_len * last_block) (chunk_len * j) s,
      )
