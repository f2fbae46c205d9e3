-- `capi::buffers::put_digest` meets its contract.
use Rattle.lent.proofs.Writing.{wrote_as}
use Rattle.capi.proofs.Filled.{put_all}
use Rattle.capi.proofs.buffers.put_digest.Goals as goal

pub returns : goal.returns
returns c = (put_all (wrote_as c.bytes.ensures c.put.ensures)).1
