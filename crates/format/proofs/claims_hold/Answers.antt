-- `format::claims_hold` meets its contract, which is that the claims hold. Assumes nothing.
use Rattle.format.proofs.Claims.{claims-hold}
use Rattle.format.proofs.claims_hold.Goals as goal

pub returns : goal.returns
returns c = claims-hold
