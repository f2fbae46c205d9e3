-- `type_section::find_user_fb` meets its contract: the entry at an index of the table.
use Rattle.std.proofs.Common.{◌∙◌}
use Rattle.std.proofs.lemmas.Result.{err_from_is_err_and}
use Rattle.base.specs.Error.{fault_of}
use Rattle.type_entries.specs.Answers.{user_fb_in}
use Rattle.base.proofs.Entries.{or_out}
use Rattle.type_section.proofs.Finding.{user-fb-is}
use Rattle.type_section.proofs.find_user_fb.Goals as goal

pub returns-in_err-find_by_width : goal.returns-in_err-find_by_width
returns-in_err-find_by_width c =
    let e = err_from_is_err_and c.from_residual-in_err-find_by_width.result c.from_residual-in_err-find_by_width.ensures.1 in
    rw (e.1, e.2) (user-fb-is _ _ c.in_ok-t.ensures.read _ _ λ xs rest d. c.in_err-find_by_width.ensures.indexes xs rest d _)

pub returns : goal.returns
returns c = rw c.ok_or.ensures.value (user-fb-is _ _ c.in_ok-t.ensures.read _ _ λ xs rest d. or_out fault_of user_fb_in _ _ ∙ c.in_ok-find_by_width.ensures.indexes xs rest d _)
