-- `capi::loading::put_record` meets its contract: 44 numbers, and 18 behind them.
use native.Mathlib.Omega.{arith}
use Rattle.lent.proofs.Writing.{wrote_as, wrote_then, wrote-length}
use Rattle.record.specs.Answers.{container_in}
use Rattle.record_numbers.proofs.Laws.{laws}
use Rattle.capi.proofs.loading.put_record.Goals as goal

pub put-requires : goal.put-requires
put-requires c =
    let w = c.put_lookup_numbers-n.ensures in
    let n = w.next in
    let l = wrote-length w in
    let p = c.requires in
    omega (arith, (laws.how-many (container_in c.args.c)).0)

pub returns : goal.returns
returns c = wrote_as (rw c.in_force.ensures) (wrote_then c.put_lookup_numbers-n.ensures c.put.ensures)
