-- `constant_pool::entry` meets its contract: the section's place decides, and then the lookup in its part of the file.
use Rattle.std.proofs.Common.{ap, arith}
use Rattle.std.proofs.lemmas.Result.{err_from_is_err_and, IfOk-weaker}
use Rattle.format.specs.Parts.{Place, by_place}
use Rattle.format.specs.Constants.{constants}
use Rattle.base.specs.Section.{place_in}
use Rattle.base.proofs.FileLookups.{lookup_err}
use Rattle.constant_pool.proofs.Entries.{ends-later}
use Rattle.constant_pool.proofs.Pool.{is-opened, lookup_placed}
use Rattle.constant_pool.proofs.entry.Goals as goal

pub returns-in_err-section_cut : goal.returns-in_err-section_cut
returns-in_err-section_cut c =
    let e = err_from_is_err_and c.from_residual.result c.from_residual.ensures.1 in
    let p = place_in c.args.section in
    rw (e.1, e.2) (lookup_err c.args.file.now p (constants (by_place p)) _ _ c.in_err-section_cut.ensures, tt)

pub returns : goal.returns
returns c =
    let p = place_in c.args.section in
    let o = is-opened c.args.file.now p _ c.in_ok-section_cut.ensures in
    (lookup_placed _ p _ c.in_ok-section_cut.ensures (λ q. constants (by_place q)) _ _ c.find.ensures.0, IfOk-weaker c.find.result _ _ (λ e h. ends-later _ _ (omega (arith, o.size, o.within, ap (λ (q : Place). q.offset) o.same)) e.kept h) c.find.ensures.1)
