-- `type_entries::user_fb_table` meets its contract: no user FBs, or a table of plain entries.
use Rattle.std.proofs.Common.{refl, ap, ◌∙◌, arith}
use Rattle.std.proofs.lemmas.Result.{err_from_is_err_and}
use Rattle.reading.proofs.Given.{goes_at}
use Rattle.reading.proofs.Left.{stays-local, stays-many}
use Rattle.format.proofs.Readers.{local-user-fb}
use Rattle.base.specs.Answers.{way_by}
use Rattle.base.specs.Error.{fault_of}
use Rattle.base.proofs.Entries.{or_there}
use Rattle.type_entries.proofs.Entries.{users-none, users-short, users-whole}
use Rattle.type_entries.proofs.user_fb_table.Goals as goal

pub returns-then-left-lt-COUNT_SIZE-clause-read : goal.returns-then-left-lt-COUNT_SIZE-clause-read
returns-then-left-lt-COUNT_SIZE-clause-read c = users-none c.args.cut.bytes.now c.args.at (omega arith)

pub returns-in_err-ok_or-clause-read : goal.returns-in_err-ok_or-clause-read
returns-in_err-ok_or-clause-read c =
    let e = err_from_is_err_and c.from_residual.result c.from_residual.ensures.1 in
    let q = ap (way_by fault_of) c.in_err-ok_or.ensures.value ∙ or_there fault_of _ refl _ ∙ c.pass.ensures in
    rw (e.1, e.2) (users-short c.args.cut.bytes.now c.args.at _ (omega arith) c.u16_at-count.ensures _ (goes_at (stays-many _ _ (stays-local _ local-user-fb)) _ q))

pub returns-clause-read : goal.returns-clause-read
returns-clause-read c =
    let q = ap (way_by fault_of) c.in_ok-ok_or.ensures.value ∙ or_there fault_of _ refl _ ∙ c.pass.ensures in
    users-whole c.args.cut.bytes.now c.args.at _ (omega arith) c.u16_at-count.ensures _ (goes_at (stays-many _ _ (stays-local _ local-user-fb)) _ q)
