-- `constant_pool::find` meets its contract: the entry at an index is the first of those from the index on.
use Rattle.std.proofs.Common.{Ok, sym, ap, ◌∙◌, arith}
use Rattle.std.proofs.lemmas.Result.{err_from_is_err_and}
use Rattle.base.specs.Answers.{next_from}
use Rattle.base.specs.Cut.{place_of}
use Rattle.constant_pool.specs.Answers.{const_in}
use Rattle.constant_pool.proofs.Pool.{find-refused, find-by, step-ends}
use Rattle.constant_pool.proofs.find.Goals as goal

pub returns-in_err-table : goal.returns-in_err-table
returns-in_err-table c =
    let e = err_from_is_err_and c.from_residual.result c.from_residual.ensures.1 in
    let a = c.args in
    rw (e.1, e.2) (find-refused a.cut.bytes.now (place_of a.cut) a.index.0 _ c.in_err-table.ensures.0, tt)

pub returns-in_err-constant : goal.returns-in_err-constant
returns-in_err-constant c =
    let e = err_from_is_err_and c.from_residual-in_err-constant.result c.from_residual-in_err-constant.ensures.1 in
    let a = c.args in
    rw (e.1, e.2) (find-by a.cut.bytes.now (place_of a.cut) a.index.0 _ c.in_ok-table.ensures.0 _ c.in_err-constant.ensures, tt)

pub returns-in-Some : goal.returns-in-Some
returns-in-Some c =
    let a = c.args in
    let g = sym (ap (λ o. next_from const_in (Ok o)) c.in-Some.is) ∙ c.in_ok-constant.ensures in (
      find-by a.cut.bytes.now (place_of a.cut) a.index.0 _ c.in_ok-table.ensures.0 _ g,
      step-ends (place_of a.cut) a.cut.bytes.now (omega arith) _ (omega arith) _ c.in-Some.constant _ g,
    )

pub returns-in-None : goal.returns-in-None
returns-in-None c =
    let a = c.args in
    let g = sym (ap (λ o. next_from const_in (Ok o)) c.in-None.is) ∙ c.in_ok-constant.ensures in
    (find-by a.cut.bytes.now (place_of a.cut) a.index.0 _ c.in_ok-table.ensures.0 _ g, tt)
