-- `type_section::fb_type` meets its contract: the section's place decides, and then the section's bytes.
use Rattle.std.proofs.lemmas.Result.{err_from_is_err_and}
use Rattle.base.proofs.FileLookups.{lookup_err, lookup_ok}
use Rattle.type_section.proofs.Finding.{head-is}
use Rattle.type_section.proofs.fb_type.Goals as goal

pub returns-in_err-section_cut : goal.returns-in_err-section_cut
returns-in_err-section_cut c =
    let e = err_from_is_err_and c.from_residual.result c.from_residual.ensures.1 in
    rw (e.1, e.2) (lookup_err _ _ _ _ _ c.in_err-section_cut.ensures)

pub returns-in_err-find_fb_type : goal.returns-in_err-find_fb_type
returns-in_err-find_fb_type c =
    let e = err_from_is_err_and c.from_residual-in_err-find_fb_type.result c.from_residual-in_err-find_fb_type.ensures.1 in
    rw (e.1, e.2) (lookup_ok _ _ _ _ _ _ c.in_ok-section_cut.ensures (head-is _ _ _ c.in_err-find_fb_type.ensures))

pub returns : goal.returns
returns c = lookup_ok _ _ _ _ _ _ c.in_ok-section_cut.ensures (head-is _ _ _ c.in_ok-find_fb_type.ensures)
