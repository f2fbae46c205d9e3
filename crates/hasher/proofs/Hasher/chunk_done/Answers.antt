-- `hasher::Hasher::chunk_done` meets its contract. Assumes nothing.
use Rattle.hasher.specs.State.{chunk_done}
use Rattle.hasher.proofs.Hasher.chunk_done.Goals as goal

pub returns : goal.returns
unfolding chunk_done
returns c = cc
