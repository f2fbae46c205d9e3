-- `record_numbers::numbers_fit` meets its contract.
use Rattle.record.specs.Answers.{container_in}
use Rattle.record_numbers.proofs.Bounds.{record-fits}
use Rattle.record_numbers.proofs.numbers_fit.Goals as goal

pub returns : goal.returns
returns c =
    record-fits (container_in c.args.c) c.head_fits.ensures c.directory_fits.ensures c.runtime_fits.ensures c.task_counts_fit.ensures
    c.type_counts_fit.ensures c.constants_fit.ensures c.debug_counts_fit.ensures
