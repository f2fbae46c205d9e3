-- `wide::compress4` meets its contract. The loop's invariant: the lanes passed have their compression.
use Rattle.std.proofs.Common.{◌≡◌, ℕ, ◌<◌, length}
use Rattle.wide.specs.Lanes.{lane}
use Rattle.wide.proofs.Lanes.{one}
use Rattle.wide.proofs.compress4.Given as goal

abbrev pub invariant-loop-i : goal.invariant-loop-i
invariant-loop-i l = record { long : length l.lane-items ≡ 4; done : (j : ℕ) → j < l.i → lane l.lane-items j ≡ one l.h l.s l.t l.flags j }
