-- `constant_pool::constants` meets its contract: the section's place decides, and then its table.
use Rattle.std.proofs.Common.{◌∙◌}
use Rattle.std.proofs.lemmas.Result.{err_from_is_err_and}
use Rattle.format.specs.Parts.{by_place}
use Rattle.format.specs.Constants.{constants}
use Rattle.base.specs.Cut.{place_of}
use Rattle.base.specs.Section.{place_in}
use Rattle.base.proofs.FileLookups.{lookup_err}
use Rattle.constant_pool.proofs.Pool.{start_is, lookup_placed}
use Rattle.constant_pool.proofs.constants.Goals as goal

pub returns-in_err-section_cut : goal.returns-in_err-section_cut
returns-in_err-section_cut c =
    let e = err_from_is_err_and c.from_residual.result c.from_residual.ensures.1 in
    let p = place_in c.args.section in
    rw (e.1, e.2) (lookup_err c.args.file.now p (constants (by_place p)) _ _ c.in_err-section_cut.ensures)

pub returns : goal.returns
returns c =
    let s = c.in_ok-section_cut.field-0 in
    lookup_placed _ (place_in c.args.section) _ c.in_ok-section_cut.ensures (λ p. constants (by_place p)) _ _ (c.table.ensures.0 ∙ start_is s.bytes.now (place_of s))
