-- `hasher::Hasher::advance` meets its contract. Assumes nothing.
use mathlib.Core.Path.{◌≡◌}
use mathlib.Core.List.{List}
use Prim.Native.Nat.{ℕ, ◌≤◌}
use Rattle.compression.specs.Sizes.{block_len, last_block}
use Rattle.hasher.specs.Hash.{chaining_value}
use Rattle.hasher.specs.State.{output_with, next_block, chunk_done, next_chunk, advanced}
use Rattle.hasher.specs.declared.Output.{Output}
use Rattle.hasher.specs.declared.Hasher.{Hasher}
use Rattle.hasher.proofs.Feeding.{advanced-block, advanced-chunk}
use borrow.Author.Rules.{rules}
use Rattle.hasher.proofs.Hasher.advance.Goals as goal

-- the chunk's last block
finishes : (h : Hasher) (m : List ℕ) {o : Output} {v : List ℕ} {r : Hasher} → last_block ≤ h.blocks_compressed → o ≡ output_with h m block_len → v ≡ chaining_value o → r ≡ chunk_done h v
    → r ≡ advanced h m
unfolding next_chunk
finishes h m p eo ev er = cc (advanced-chunk h m p)

pub returns-then-self : goal.returns-then-self
unfolding next_block
returns-then-self c = let a = c.args in cc (advanced-block a.self a.block_words (search rules))

pub returns : goal.returns
returns c =
    let a = c.args in
    finishes a.self a.block_words (search rules) c.output-last.ensures c.chaining_value.ensures c.chunk_done.ensures
