-- `code_section::find` meets its contract: the entry at an index of the directory.
use Rattle.std.proofs.Common.{◌∙◌}
use Rattle.std.proofs.lemmas.Result.{err_from_is_err_and}
use Rattle.base.specs.Error.{fault_of}
use Rattle.base.proofs.Entries.{or_out}
use Rattle.code_section.specs.Answers.{func_in}
use Rattle.code_section.proofs.Entries.{code-long, function-is}
use Rattle.code_section.proofs.find.Goals as goal

pub returns-in_err-find_by_width : goal.returns-in_err-find_by_width
returns-in_err-find_by_width c =
    let e = err_from_is_err_and c.from_residual-in_err-find_by_width.result c.from_residual-in_err-find_by_width.ensures.1 in
    rw (e.1, e.2) (function-is _ _ _ (code-long _ _ c.in_ok-read_from.ensures) _ λ xs rest d. c.in_err-find_by_width.ensures.indexes xs rest (rw c.directory.ensures d) _)

pub returns : goal.returns
returns c = rw c.ok_or.ensures.value (function-is _ _ _ (code-long _ _ c.in_ok-read_from.ensures) _ λ xs rest d. or_out fault_of func_in _ _ ∙ c.in_ok-find_by_width.ensures.indexes xs rest (rw c.directory.ensures d) _)
