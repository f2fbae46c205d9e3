-- `ArrayDescriptor::put` meets its contract: its line is written, or the buffer is as it was.
use Rattle.lent.proofs.Fitting.{puts-free}
use Rattle.table_lines.proofs.listed.ArrayDescriptorListed.put.Goals as goal

pub returns : goal.returns
returns c = puts-free c.put_array.ensures
