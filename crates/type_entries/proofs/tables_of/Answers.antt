-- `type_entries::tables_of` meets its contract: three tables, one behind the other.
use Rattle.std.proofs.lemmas.Result.{err_from_is_err_and}
use Rattle.type_entries.proofs.Standing.{fb-types-stop, arrays-stop, arrays-within, user-fbs-stop, tables-whole}
use Rattle.type_entries.proofs.tables_of.Goals as goal

pub returns-in_err-fb_types-clause-read : goal.returns-in_err-fb_types-clause-read
returns-in_err-fb_types-clause-read c =
    let e = err_from_is_err_and c.from_residual.result c.from_residual.ensures.1 in
    rw (e.1, e.2, ← c.of-cut.ensures.same) (fb-types-stop _ _ c.in_err-fb_types.ensures.read)

pub returns-in_err-arrays-clause-read : goal.returns-in_err-arrays-clause-read
returns-in_err-arrays-clause-read c =
    let e = err_from_is_err_and c.from_residual-in_err-arrays.result c.from_residual-in_err-arrays.ensures.1 in
    rw (e.1, e.2, ← c.of-cut.ensures.same) (arrays-stop _ _ _ c.in_ok-fb_types.ensures.read _ c.in_err-arrays.ensures.read)

pub user_fb_table-requires : goal.user_fb_table-requires
user_fb_table-requires c = arrays-within _ _ _ c.in_ok-fb_types.ensures.read _ _ c.in_ok-arrays.ensures.read

pub returns-in_err-user_fbs-clause-read : goal.returns-in_err-user_fbs-clause-read
returns-in_err-user_fbs-clause-read c =
    let e = err_from_is_err_and c.from_residual-in_err-user_fbs.result c.from_residual-in_err-user_fbs.ensures.1 in
    rw (e.1, e.2, ← c.of-cut.ensures.same) (user-fbs-stop _ _ _ c.in_ok-fb_types.ensures.read _ _ c.in_ok-arrays.ensures.read _ c.in_err-user_fbs.ensures.read)

pub returns-clause-read : goal.returns-clause-read
returns-clause-read c = rw (← c.of-cut.ensures.same) (tables-whole _ _ _ c.in_ok-fb_types.ensures.read _ _ c.in_ok-arrays.ensures.read _ c.in_ok-user_fbs.ensures.read)
