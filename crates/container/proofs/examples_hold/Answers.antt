-- `container::examples_hold` has an empty body: its contract is that the examples hold.
use Rattle.container.proofs.Examples.{examples}
use Rattle.container.proofs.examples_hold.Goals as goal

pub returns : goal.returns
returns c = examples
