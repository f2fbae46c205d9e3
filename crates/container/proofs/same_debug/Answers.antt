-- `container::same_debug` has an empty body: its contract is the second half of demand 3, which holds for any hash.
use Rattle.format.proofs.UnknownTables.{unknown-tables, unknown-tables-of-records}
use Rattle.blake3.specs.Blake3.{blake3}
use Rattle.container.proofs.same_debug.Goals as goal

pub returns : goal.returns
returns c = record { answers = unknown-tables-of-records blake3 _ _; tables = unknown-tables blake3 _ _ }
