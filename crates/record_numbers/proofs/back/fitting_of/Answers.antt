-- `record_numbers::back::fitting_of` meets its contract.
use Rattle.record_numbers.specs.FromNumbers.{number_at, types_flag_at, debug_flag_at}
use Rattle.record_numbers.proofs.Bounds.{fields_fit}
use Rattle.record_numbers.proofs.back.fitting_of.Goals as goal

pub invariant_of-result : goal.invariant_of-result
invariant_of-result c =
    let n = c.args.n in record { fit = fields_fit (number_at n types_flag_at) (number_at n debug_flag_at) n (cc (c.most_numbers-most.ensures, c.all_fit.ensures, c.if-all_fit.true)) }
