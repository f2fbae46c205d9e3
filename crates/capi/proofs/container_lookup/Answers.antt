-- `capi::container_lookup` meets its contract.
use Rattle.capi.proofs.Filled.{answered-as}
use Rattle.answer_numbers.proofs.Kept.{numbers-kept}
use Rattle.capi.proofs.container_lookup.Goals as goal

pub returns : goal.returns
returns c = answered-as (numbers-kept c.lookup_in_numbers.ensures) c.put_answer.ensures
