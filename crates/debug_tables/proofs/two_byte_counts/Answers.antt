-- `debug_tables::two_byte_counts` meets its contract: a slice of bytes has bytes alone.
use Rattle.std.proofs.Common.{sym, arith}
use Rattle.debug_tables.proofs.Few.{few}
use Rattle.debug_tables.proofs.two_byte_counts.Goals as goal

pub returns : goal.returns
returns c = few _ (λ i. omega (arith, c.type_inv.s i)) _ (sym c.requires)
