-- `capi::content_hash` meets its contract.
use Rattle.std.proofs.lemmas.Result.{err_from_is_err_and}
use Rattle.capi.proofs.Lookups.{hash-refused, hash-found}
use Rattle.capi.proofs.content_hash.Goals as goal

pub returns-in_err-read_from : goal.returns-in_err-read_from
returns-in_err-read_from c =
    let e = err_from_is_err_and c.from_residual.result c.from_residual.ensures.1 in
    rw (e.1, e.2) (hash-refused c.args.file.now _ c.in_err-read_from.ensures)

pub returns : goal.returns
returns c = hash-found c.args.file.now _ c.in_ok-read_from.ensures
