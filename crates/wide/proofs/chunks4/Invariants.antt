-- `wide::chunks4` meets its contract. The loop's invariant: in each lane the blocks that are left give what all blocks give.
use Rattle.std.proofs.Common.{◌≡◌, ℕ, ◌<◌, ◌≤◌}
use Rattle.compression.specs.Sizes.{last_block}
use Rattle.wide.specs.Lanes.{lane}
use Rattle.wide.proofs.Lanes.{left, all}
use Rattle.wide.proofs.chunks4.Given as goal

abbrev pub invariant-loop-b : goal.invariant-loop-b
invariant-loop-b l = (l.b ≤ last_block) × ((j : ℕ) → j < 4 → left l.s l.t j l.b (lane l.h j) ≡ all l.s l.t j (lane l.initial.h j))
