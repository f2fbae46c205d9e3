-- `capi::container_hash` meets its contract.
use Rattle.capi.proofs.Filled.{hashed-as}
use Rattle.capi.proofs.container_hash.Goals as goal

pub returns : goal.returns
returns c = hashed-as c.hash.ensures c.put_hash.ensures
