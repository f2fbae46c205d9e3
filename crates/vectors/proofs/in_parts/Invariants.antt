-- `vectors::in_parts` is safe and ends: each part has a byte, and the measure is what is left of the input.
use Rattle.std.proofs.Common.{◌<◌, length}
use Rattle.vectors.proofs.in_parts.Given as goal

abbrev pub invariant-loop-rest : goal.invariant-loop-rest
invariant-loop-rest l = l.turn < 8

abbrev pub decreases-loop-rest : goal.decreases-loop-rest
decreases-loop-rest l = length l.rest
