-- BLAKE3's tree (its specification, sections 2.1 and 2.4), over any chunks, parents and chaining values.
-- A node is given by its output: all that its last compression takes, but the flag ROOT.
use Rattle.std.specs.Prelude.{cond, List, ℕ, zero, suc, ◌+◌, ◌*◌, ◌^◌, leb, length, take, drop}
use Rattle.compression.specs.Sizes.{chunk_len}

module _ {Value Output : Type 0} (chunk : ℕ → List ℕ → Output) (parent : Value → Value → Output) (value : Output → Value) where
  -- The root of the tree over the bytes `bs`, at most 2 ^ d chunks, the first with the number t.
  -- If half as many chunks hold all bytes, the tree is no deeper than theirs. Otherwise the left subtree has that many chunks, the largest
  -- power of two that leaves the right subtree at least one byte, and the right subtree has the rest.
  unfoldable pub node : ℕ → ℕ → List ℕ → Output
  node zero t bs = chunk t bs
  node (suc d) t bs =
      let whole = node d t bs in
      let left = value (node d t (take (chunk_len * 2 ^ d) bs)) in
      let right = value (node d (t + 2 ^ d) (drop (chunk_len * 2 ^ d) bs)) in
      cond (leb (length bs) (chunk_len * 2 ^ d)) whole (parent left right)
