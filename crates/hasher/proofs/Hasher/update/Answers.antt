-- `hasher::Hasher::update` meets its contract: the input is cut once, to what there is room for.
use Rattle.std.proofs.Common.{◌∙◌, arith}
use Rattle.hasher.proofs.Room.{fed-cut}
use Rattle.hasher.proofs.Hasher.update.Goals as goal

pub returns : goal.returns
returns c =
    let a = c.args in
    c.feed.ensures ∙ fed-cut a.self a.s.now c.taken.ensures (omega arith)
