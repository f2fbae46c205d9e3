-- `container::place_told` has an empty body: its contract is what is claimed of the place.
use Rattle.container.proofs.PlaceTold as claimed
use Rattle.container.proofs.place_told.Goals as goal

pub returns : goal.returns
returns c = claimed.place-told _ _
