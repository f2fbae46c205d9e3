-- `constant_pool::next_constant` meets its contract: the section's place decides, and then the step in its part of the file.
use Rattle.std.proofs.Common.{ap, arith}
use Rattle.format.specs.Parts.{Place, by_place}
use Rattle.format.specs.Constants.{constant}
use Rattle.base.specs.Cut.{place_of}
use Rattle.base.specs.Section.{place_in}
use Rattle.constant_pool.proofs.Pool.{is-opened, walk_placed, next-ends}
use Rattle.constant_pool.proofs.next_constant.Goals as goal

pub returns : goal.returns
returns c =
    let a = c.args in
    let p = place_in a.section in
    let s = c.in_ok-section_cut.field-0 in
    let o = is-opened a.file.now p _ c.in_ok-section_cut.ensures in
    (walk_placed a.file.now p _ c.in_ok-section_cut.ensures (λ q. constant (by_place q)) a.t _ c.step.ensures, next-ends (place_of s) s.bytes.now (omega arith) _ (omega (arith, o.size, o.within, ap (λ (q : Place). q.offset) o.same)) a.t c.step.result c.step.ensures)
