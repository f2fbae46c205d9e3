-- `capi::loading::put_header` meets its contract.
use Rattle.lent.proofs.Writing.{wrote_as, wrote_then}
use Rattle.capi.proofs.loading.put_header.Goals as goal

pub returns : goal.returns
returns c =
    wrote_as (rw (c.head.ensures, c.directory.ensures, c.runtime.ensures))
    (wrote_then (wrote_then c.put-n.ensures c.put-m.ensures) c.put.ensures)
