-- `debug_section::tables` meets its contract: what is known where it reads.
use Rattle.std.proofs.lemmas.Result.{err_from_is_err_and}
use Rattle.debug_section.proofs.Parts.{opened-refused, opened_found}
use Rattle.debug_section.proofs.tables.Goals as goal

pub returns-in_err-opened : goal.returns-in_err-opened
returns-in_err-opened c =
    let e = err_from_is_err_and c.from_residual.result c.from_residual.ensures.1 in
    rw (e.1, e.2) (opened-refused _ _ c.in_err-opened.ensures, tt)

pub returns : goal.returns
returns c = let o = opened_found _ _ c.in_ok-opened.ensures in (o.starts, o.inside)
