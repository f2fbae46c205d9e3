-- `wide::rounds` meets its contract: each round takes the message permuted once more than the one before.
use Rattle.compression.specs.Compression.{rounds}
use Rattle.wide.proofs.rounds.Goals as goal

pub returns : goal.returns
unfolding rounds
returns c = cc
