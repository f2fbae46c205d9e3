-- `hasher::Hasher::take_chunks` meets its contract. The loop's invariant: what the chunks passed have made of the state.
use Rattle.hasher.proofs.Four.{Passed}
use Rattle.hasher.proofs.Hasher.take_chunks.Given as goal

abbrev pub invariant-loop-cv : goal.invariant-loop-cv
invariant-loop-cv l = Passed l.fn.self l.h l.s l.cv-index
