-- `capi::container_load` meets its contract.
use Rattle.std.proofs.Common.{◌∙◌, arith}
use Rattle.lent.proofs.Writing.{wrote_as}
use Rattle.capi.proofs.Lookups.{load-refused, load_found}
use Rattle.capi.proofs.Filled.{answered-none, answered, answered-as}
use Rattle.answer_numbers.proofs.Kept.{numbers-kept}
use Rattle.capi.proofs.container_load.Goals as goal

pub returns-then-out-lt-ROOM : goal.returns-then-out-lt-ROOM
returns-then-out-lt-ROOM c = answered-none _ _ c.if-out-lt-ROOM.true

pub returns-in-Err : goal.returns-in-Err
returns-in-Err c = answered-as (numbers-kept c.refusal.ensures ∙ load-refused c.args.file.now _ c.in-Err.ensures) c.put_answer.ensures

pub returns-in-Ok : goal.returns-in-Ok
returns-in-Ok c = answered (omega arith) (wrote_as (load_found c.args.file.now _ c.in-Ok.ensures) c.put_record.ensures)
