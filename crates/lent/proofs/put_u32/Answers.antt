-- `lent::put_u32` meets its contract.
use Rattle.lent.proofs.Writing.{wrote_number}
use Rattle.lent.proofs.put_u32.Goals as goal

pub returns : goal.returns
returns c = wrote_number 4 _ c.to_le_bytes.ensures c.put.ensures
