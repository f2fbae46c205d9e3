-- The claims about feeding: from the start and in any division into parts, it gives BLAKE3's digest; and few values wait.
use Rattle.std.specs.Prelude.{◌≡◌, List, [], ◌∷◌, ◌++◌, ℕ, suc, ◌+◌, ◌*◌, ◌-◌, ◌/◌, ◌^◌, ◌≤◌, ◌<◌, min, length, take, drop}
use Rattle.compression.specs.Sizes.{chunk_len}
use Rattle.hasher.specs.Tree.{node}
use Rattle.hasher.specs.Hash.{chaining_value, parent_output, chunk_output, hash_words}
use Rattle.hasher.specs.Stack.{levels, values_of, waiting}
use Rattle.hasher.specs.State.{start, capacity, fill, fed, finished}
use Rattle.hasher.specs.declared.Hasher.{Hasher}

-- the parts one after the other, and a state fed with each in turn
abbrev pub joined_parts : List (List ℕ) → List ℕ
joined_parts [] = []
joined_parts (p ∷ ps) = p ++ joined_parts ps

abbrev pub fed_parts : Hasher → List (List ℕ) → Hasher
fed_parts h [] = h
fed_parts h (p ∷ ps) = fed_parts (fed h p) ps

-- how many chunks, the last perhaps short, n bytes are
abbrev pub chunk_count : ℕ → ℕ
chunk_count n = (n + (chunk_len - 1)) / chunk_len

pub record Laws : Type 0 where
  -- in any state: feeding parts is feeding their concatenation
  pub parts : (h : Hasher) (ps : List (List ℕ)) → fed_parts h ps ≡ fed h (joined_parts ps)
  -- in any state: every byte counts as one, up to the capacity
  pub fills : (h : Hasher) (bs : List ℕ) → fill (fed h bs) ≡ fill h + min (capacity - fill h) (length bs)
  -- a full state does not change
  pub full : (h : Hasher) (bs : List ℕ) → capacity ≤ fill h → fed h bs ≡ h
  -- from the start, up to the capacity: the digest
  pub digest : (ps : List (List ℕ)) → length (joined_parts ps) ≤ capacity → finished (fed_parts start ps) ≡ hash_words (joined_parts ps)
  -- and the values that wait are the roots of the full subtrees of the finished chunks, largest first: no push is lost
  pub waits : (bs : List ℕ) → values_of (fed start bs).cv_stack ≡ waiting levels 0 (take (chunk_len * (fed start bs).chunk_counter) bs)
  -- at most `levels` values wait, however much is fed
  pub few-wait : (bs : List ℕ) → (fed start bs).cv_stack.len ≤ levels
  -- and fewer chunks are finished than the capacity has: the last one waits
  pub few-chunks : (bs : List ℕ) → (fed start bs).chunk_counter < 2 ^ levels
  -- where the tree splits, the left part has the largest power of two of chunks that is below the chunk count of the whole
  pub split : (d t : ℕ) (bs : List ℕ) → chunk_len * 2 ^ d < length bs → length bs ≤ chunk_len * 2 ^ suc d
      → (node chunk_output parent_output chaining_value (suc d) t bs
      ≡ parent_output (chaining_value (node chunk_output parent_output chaining_value d t (take (chunk_len * 2 ^ d) bs))) (chaining_value (node chunk_output parent_output chaining_value d (t + 2 ^ d) (drop (chunk_len * 2 ^ d) bs))))
      × (2 ^ d < chunk_count (length bs)) × (chunk_count (length bs) ≤ 2 ^ suc d)
