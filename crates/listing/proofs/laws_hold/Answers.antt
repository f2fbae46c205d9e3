-- The claims of `specs/Laws.antt`.
use Rattle.listing.proofs.Laws.{laws}
use Rattle.listing.proofs.laws_hold.Goals as goal

pub returns : goal.returns
returns c = laws
