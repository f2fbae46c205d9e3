-- `text::put_ended` meets its contract.
use Rattle.lent.proofs.Writing.{wrote_then}
use Rattle.text.proofs.put_ended.Goals as goal

pub returns : goal.returns
returns c = wrote_then (wrote_then c.put-next.ensures c.put_numbers-next.ensures) c.put.ensures
