-- `utf8::valid_up_to` meets its contract: what is left has been reached by whole sequences, and gets shorter. Assumes nothing.
use lib.ListN.{length}
use Rattle.utf8.specs.Utf8.{Passed}
use Rattle.utf8.proofs.valid_up_to.Given as goal

abbrev pub invariant-loop-rest : goal.invariant-loop-rest
invariant-loop-rest l = Passed l.s l.rest

abbrev pub decreases-loop-rest : goal.decreases-loop-rest
decreases-loop-rest l = length l.rest
