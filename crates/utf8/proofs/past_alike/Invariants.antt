-- `utf8::past_alike` meets its contract: what is left has been reached by whole sequences, and gets shorter. Assumes nothing.
use lib.ListN.{length}
use Rattle.utf8.specs.Utf8.{Passed}
use Rattle.utf8.proofs.past_alike.Given as goal

abbrev pub invariant-loop-k : goal.invariant-loop-k
invariant-loop-k l = Passed l.s l.rest

abbrev pub decreases-loop-k : goal.decreases-loop-k
decreases-loop-k l = length l.rest
