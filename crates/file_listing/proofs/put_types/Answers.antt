-- `file_listing::put_types` meets its contract: the texts of the three tables, one behind the other.
use mathlib.Core.List.{[], ◌∷◌}
use Rattle.lent.proofs.Fitting.{free-at, wrote-free}
use Rattle.record.specs.Answers.{container_in}
use Rattle.table_lines.specs.Tables.{arrays_text, user_fbs_text}
use Rattle.file_listing.proofs.Joining.{next-put, full}
use Rattle.file_listing.proofs.put_types.Goals as goal

pub returns-in_err-n : goal.returns-in_err-n
returns-in_err-n c =
    let a = c.args in
    let f = a.file.now in
    let r = container_in a.c in
    rw c.from_residual.ensures (full (arrays_text f r ∷ user_fbs_text f r ∷ []) c.in_err-n.ensures)

pub returns-in_err-n-2 : goal.returns-in_err-n-2
returns-in_err-n-2 c =
    let a = c.args in
    let f = a.file.now in
    let r = container_in a.c in
    let w1 = free-at c.in_ok-n.ensures in
    rw c.from_residual-in_err-n-2.ensures (full (user_fbs_text f r ∷ []) (wrote-free w1 c.in_err-n-2.ensures))

pub returns : goal.returns
returns c =
    let w1 = free-at c.in_ok-n.ensures in
    let w2 = next-put w1 c.in_ok-n-2.ensures in
    wrote-free w2 c.put_user_fbs.ensures
