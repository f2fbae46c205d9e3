-- `compression::round` meets its contract: what its calls ensure, in their order, is the law `steps`.
use Rattle.compression.proofs.ByRows.{steps}
use Rattle.compression.proofs.round.Goals as goal

pub returns : goal.returns
returns c =
    steps c.args.v c.args.m c.well_formed.0.1.0.1 c.half-columns.ensures c.shifted.ensures c.half-diagonals.ensures c.back.ensures
