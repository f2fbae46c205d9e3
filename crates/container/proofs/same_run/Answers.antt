-- `container::same_run` has an empty body: its contract is the first half of demand 3, which holds for any hash.
use Rattle.format.proofs.RunSide.{run-side-independence, run-side-of-records}
use Rattle.blake3.specs.Blake3.{blake3}
use Rattle.container.proofs.same_run.Goals as goal

pub returns : goal.returns
returns c = λ p. record { answers = run-side-of-records blake3 _ _ p; tables = run-side-independence blake3 _ _ p }
