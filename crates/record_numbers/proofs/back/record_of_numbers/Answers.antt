-- `record_numbers::back::record_of_numbers` meets its contract.
use Rattle.std.proofs.Common.{rules}
use Rattle.record_numbers.proofs.Bounds.{accepted, turned-away}
use Rattle.record_numbers.proofs.back.record_of_numbers.Goals as goal

pub returns-in_err-fitting_of : goal.returns-in_err-fitting_of
returns-in_err-fitting_of c = rw c.from_residual-in_err-fitting_of.ensures (turned-away c.args.numbers.now c.in_ok-first_chunk.field-0.now (search rules) c.in_err-fitting_of.ensures)

pub returns : goal.returns
returns c = accepted c.args.numbers.now c.in_ok-first_chunk.field-0.now (search rules) c.in_ok-fitting_of.field-0.n c.in_ok-fitting_of.ensures c.record.ensures
