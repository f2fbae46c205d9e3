-- `container::types_at` meets its contract: none if the place is not in the file behind the header, else the section's reader decides.
use Rattle.std.proofs.lemmas.Result.{err_from_is_err_and}
use Rattle.container.proofs.Parts.{types-outside, types-refused, types-counted}
use Rattle.container.proofs.types_at.Goals as goal

pub returns-in-Err : goal.returns-in-Err
returns-in-Err c = types-outside _ _ c.requires _ c.in-Err.ensures

pub returns-in_err-read_from-in-Ok : goal.returns-in_err-read_from-in-Ok
returns-in_err-read_from-in-Ok c =
    let e = err_from_is_err_and c.from_residual.result c.from_residual.ensures.1 in
    rw (e.1, e.2) (types-refused _ _ c.requires _ _ c.in-Ok.ensures c.in_err-read_from-in-Ok.ensures)

pub returns-in_ok-read_from-in-Ok : goal.returns-in_ok-read_from-in-Ok
returns-in_ok-read_from-in-Ok c = types-counted _ _ c.requires _ _ c.in-Ok.ensures c.in_ok-read_from-in-Ok.ensures
