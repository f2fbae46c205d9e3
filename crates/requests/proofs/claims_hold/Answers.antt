-- `requests::claims_hold` meets its contract, which is that the claims hold. Assumes nothing.
use Rattle.requests.proofs.Claims.{claims-hold}
use Rattle.requests.proofs.claims_hold.Goals as goal

pub returns : goal.returns
returns c = claims-hold
