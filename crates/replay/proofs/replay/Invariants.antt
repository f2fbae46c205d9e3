-- `replay::replay` is safe and ends: each file lies in what is left, and that is the measure.
use Rattle.std.proofs.Common.{length}
use Rattle.replay.proofs.replay.Given as goal

abbrev pub decreases-loop-length : goal.decreases-loop-length
decreases-loop-length g l = length l.rest
