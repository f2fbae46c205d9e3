-- `constant_pool::table` meets its contract: the count, the entries before the index, and the others.
use Rattle.std.proofs.Common.{arith}
use Rattle.std.proofs.lemmas.Result.{err_from_is_err_and}
use Rattle.format.specs.Parts.{by_place}
use Rattle.format.proofs.Leaves.{stays-constant}
use Rattle.base.specs.Cut.{place_of}
use Rattle.reading.proofs.From.{table_short, table_first_err, table_err, table_ok}
use Rattle.constant_pool.proofs.table.Goals as goal

pub returns-then-left-lt-COUNT_SIZE : goal.returns-then-left-lt-COUNT_SIZE
returns-then-left-lt-COUNT_SIZE c = let a = c.args in (table_short _ _ (stays-constant a.cut.bytes.now (by_place (place_of a.cut))) a.k (omega arith), tt)

pub returns-in_err-at : goal.returns-in_err-at
returns-in_err-at c =
    let e = err_from_is_err_and c.from_residual.result c.from_residual.ensures.1 in
    let a = c.args in
    rw (e.1, e.2) (table_first_err _ _ (stays-constant a.cut.bytes.now (by_place (place_of a.cut))) a.k _ _ (omega arith) c.u16_at-all.ensures c.min.ensures _ c.in_err-at.ensures, tt)

pub returns-in_err-skip : goal.returns-in_err-skip
returns-in_err-skip c =
    let e = err_from_is_err_and c.from_residual-in_err-skip.result c.from_residual-in_err-skip.ensures.1 in
    let a = c.args in
    rw (e.1, e.2) (table_err _ _ (stays-constant a.cut.bytes.now (by_place (place_of a.cut))) a.k _ _ (omega arith) c.u16_at-all.ensures c.min.ensures _ _ c.saturating_sub-count.ensures c.in_ok-at.ensures _ c.in_err-skip.ensures, tt)

pub returns : goal.returns
returns c =
    let a = c.args in
    (table_ok _ _ (stays-constant a.cut.bytes.now (by_place (place_of a.cut))) a.k _ _ (omega arith) c.u16_at-all.ensures c.min.ensures _ _ c.saturating_sub-count.ensures c.in_ok-at.ensures _ c.in_ok-skip.ensures, omega arith)
