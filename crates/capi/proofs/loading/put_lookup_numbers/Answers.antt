-- `capi::loading::put_lookup_numbers` meets its contract.
use Rattle.lent.proofs.Writing.{wrote_as, wrote_then}
use Rattle.capi.proofs.loading.put_lookup_numbers.Goals as goal

pub returns : goal.returns
returns c =
    wrote_as (rw (c.task_counts.ensures, c.type_counts.ensures, c.debug_counts.ensures))
    (wrote_then (wrote_then (wrote_then (wrote_then c.put_header-n.ensures c.put-m.ensures) c.put-k.ensures) c.put-j.ensures) c.put.ensures)
