-- Whole chunks taken in at once, by a state at the start of a chunk. That feeding their bytes gives the same is proved in `Turns` of the proofs.
use Rattle.std.specs.Prelude.{cond, List, ℕ, zero, suc, ◌*◌, ltb, drop}
use Rattle.compression.specs.Sizes.{chunk_len}
use Rattle.wide.specs.Lanes.{chunk_value}
use Rattle.hasher.specs.State.{chunk_done}
use Rattle.hasher.specs.declared.Hasher.{Hasher}

-- the first n chunks of s
unfoldable pub chunks_done : ℕ → Hasher → List ℕ → Hasher
chunks_done zero h s = h
chunks_done (suc n) h s = chunks_done n (chunk_done h (chunk_value h.chaining_value h.chunk_counter s)) (drop chunk_len s)

-- how many chunks are taken in at once if this many bytes are left: four if more input follows them, or one
abbrev pub at_once : ℕ → ℕ
at_once left = cond (ltb (4 * chunk_len) left) 4 1
