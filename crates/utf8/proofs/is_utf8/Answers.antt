-- `utf8::is_utf8` meets its contract. Assumes nothing.
use Rattle.utf8.specs.Utf8.{utf8}
use Rattle.utf8.proofs.is_utf8.Goals as goal

pub returns : goal.returns
unfolding utf8
returns c = rw c.valid_up_to.ensures
