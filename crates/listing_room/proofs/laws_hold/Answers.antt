-- The claims of `specs/Laws.antt`.
use Rattle.listing_room.proofs.Laws.{laws}
use Rattle.listing_room.proofs.laws_hold.Goals as goal

pub returns : goal.returns
returns c = laws
