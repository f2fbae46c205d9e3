-- `constant_pool::read_from` meets its contract: the number of constants is the same whether strings are kept by bytes or by places.
use Rattle.std.proofs.lemmas.Result.{err_from_is_err_and}
use Rattle.base.specs.Cut.{place_of}
use Rattle.constant_pool.proofs.Pool.{count-refused, count-found}
use Rattle.constant_pool.proofs.read_from.Goals as goal

pub returns-in_err-table : goal.returns-in_err-table
returns-in_err-table c =
    let e = err_from_is_err_and c.from_residual.result c.from_residual.ensures.1 in
    let o = c.of.result in
    rw (e.1, e.2, ← c.of.ensures.same) (count-refused o.bytes.now (place_of o) _ c.in_err-table.ensures.0)

pub returns : goal.returns
returns c = let o = c.of.result in rw (← c.of.ensures.same) (count-found o.bytes.now (place_of o) _ c.in_ok-table.ensures.0)
