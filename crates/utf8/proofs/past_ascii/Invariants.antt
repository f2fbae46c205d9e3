-- `utf8::past_ascii` meets its contract: what is left has been reached by whole sequences, and gets shorter. Assumes nothing.
use lib.ListN.{length}
use Rattle.utf8.specs.Utf8.{Passed}
use Rattle.utf8.proofs.past_ascii.Given as goal

abbrev pub invariant-loop-rest : goal.invariant-loop-rest
invariant-loop-rest l = Passed l.s l.rest

abbrev pub decreases-loop-rest : goal.decreases-loop-rest
decreases-loop-rest l = length l.rest

abbrev pub invariant-loop-rest-2 : goal.invariant-loop-rest-2
invariant-loop-rest-2 l = Passed l.s l.rest

abbrev pub decreases-loop-rest-2 : goal.decreases-loop-rest-2
decreases-loop-rest-2 l = length l.rest
