-- `debug_tables::rows_of` meets its contract.
use Rattle.std.proofs.Common.{arith}
use Rattle.debug_tables.proofs.Rows.{no-count, rows-got}
use Rattle.debug_tables.proofs.rows_of.Goals as goal

pub returns-in_err-count : goal.returns-in_err-count
returns-in_err-count c = rw c.from_residual.ensures (no-count c.args.s.now c.in_err-count.ensures.cases)

pub returns : goal.returns
returns c =
    let q = c.in_ok-count.ensures.cases in
    rows-got c.args.s.now _ _ _ _ (omega arith) q.0 q.1 c.as_chunks.ensures.front c.u16_at.ensures _ c.u16_at.type_inv c.get.ensures.lookup.0
