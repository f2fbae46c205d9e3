-- `hasher::Hasher::finish` meets its contract. Assumes nothing.
use Rattle.hasher.specs.State.{finished}
use Rattle.hasher.proofs.Hasher.finish.Goals as goal

pub returns : goal.returns
unfolding finished
returns c = cc
