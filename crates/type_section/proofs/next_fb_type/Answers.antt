-- `type_section::next_fb_type` meets its contract: the section's place decides, and then the section's bytes.
use Rattle.std.proofs.Common.{ap, refl, ◌∙◌}
use Rattle.std.proofs.lemmas.Result.{err_from_is_err_and}
use Rattle.format.specs.Types.{fb_type}
use Rattle.base.specs.Section.{place_in}
use Rattle.base.proofs.FileLookups.{walk_err, walk_ok}
use Rattle.type_section.specs.Lookups.{with_fields}
use Rattle.type_section.proofs.next_fb_type.Goals as goal

pub returns-in_err-section_cut : goal.returns-in_err-section_cut
returns-in_err-section_cut c =
    let e = err_from_is_err_and c.from_residual.result c.from_residual.ensures.1 in
    let a = c.args in
    rw (e.1, e.2) (ap (with_fields a.t) (walk_err a.file.now (place_in a.section) fb_type a.t _ c.in_err-section_cut.ensures))

pub returns : goal.returns
returns c =
    let a = c.args in
    c.step_fb_type.ensures ∙ ap (with_fields a.t) (walk_ok a.file.now (place_in a.section) fb_type a.t _ _ c.in_ok-section_cut.ensures refl)
