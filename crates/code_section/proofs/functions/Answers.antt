-- `code_section::functions` meets its contract: the directory is the section's first part, where it reads.
use Rattle.std.proofs.lemmas.Result.{err_from_is_err_and}
use Rattle.base.proofs.FileLookups.{lookup_ok}
use Rattle.format.proofs.Answers.{refused-then}
use Rattle.code_section.proofs.Entries.{code-long, code-good}
use Rattle.code_section.proofs.functions.Goals as goal

pub returns-in_err-read_from : goal.returns-in_err-read_from
returns-in_err-read_from c =
    let e = err_from_is_err_and c.from_residual-in_err-read_from.result c.from_residual-in_err-read_from.ensures.1 in
    rw (e.1, e.2) (lookup_ok _ _ _ _ _ _ c.in_ok-section_cut.ensures (refused-then _ (λ v. tt) _ _ c.in_err-read_from.ensures))

pub returns : goal.returns
returns c = rw c.directory.ensures (lookup_ok _ _ _ _ _ _ c.in_ok-section_cut.ensures (code-good _ _ _ (code-long _ _ c.in_ok-read_from.ensures)))
