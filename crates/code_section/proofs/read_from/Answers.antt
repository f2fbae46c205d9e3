-- `code_section::read_from` meets its contract: the directory is there, or the input is too short for it.
use Rattle.std.proofs.Common.{refl, ap, ◌∙◌}
use Rattle.std.proofs.lemmas.Result.{err_from_is_err_and}
use Rattle.reading.proofs.Given.{goes_at}
use Rattle.reading.proofs.Left.{stays-local, stays-many}
use Rattle.format.proofs.Readers.{local-function}
use Rattle.base.specs.Answers.{way_by}
use Rattle.base.specs.Error.{fault_of}
use Rattle.base.proofs.Entries.{or_there}
use Rattle.code_section.proofs.Entries.{code-stop, code-passed}
use Rattle.code_section.proofs.read_from.Goals as goal

pub returns-in_err-ok_or : goal.returns-in_err-ok_or
returns-in_err-ok_or c =
    let e = err_from_is_err_and c.from_residual.result c.from_residual.ensures.1 in
    let q = ap (way_by fault_of) c.in_err-ok_or.ensures.value ∙ or_there fault_of _ refl _ ∙ c.pass.ensures in
    rw (e.1, e.2, ← c.of.ensures.same) (code-stop _ _ _ (goes_at (stays-many _ _ (stays-local _ local-function)) _ q))

pub returns : goal.returns
returns c =
    let q = ap (way_by fault_of) c.in_ok-ok_or.ensures.value ∙ or_there fault_of _ refl _ ∙ c.pass.ensures in
    rw (← c.of.ensures.same) (code-passed _ _ _ (goes_at (stays-many _ _ (stays-local _ local-function)) _ q))
