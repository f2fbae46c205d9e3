-- `type_section::step_fb_type` meets its contract: the step over the head, whose fields stand behind it.
use Rattle.std.proofs.Common.{arith}
use Rattle.std.proofs.lemmas.Result.{err_from_is_err_and}
use Rattle.reading.specs.Places.{ends, faulty, entry}
use Rattle.type_section.proofs.Finding.{fb-type-step, step-room}
use Rattle.type_section.proofs.step_fb_type.Goals as goal

pub returns-in_err-fb_type : goal.returns-in_err-fb_type
returns-in_err-fb_type c =
    let e = err_from_is_err_and c.from_residual.result c.from_residual.ensures.1 in
    rw (e.1, e.2) (fb-type-step _ _ (faulty _) c.in_err-fb_type.ensures)

pub returns-in_default : goal.returns-in_default
returns-in_default c = fb-type-step _ _ ends (rw c.in_default.is at c.in_ok-fb_type.ensures)

pub returns : goal.returns
returns c =
    let a = c.args in
    let room = step-room a.cut.bytes.now a.t _ _ (rw c.in-Some.is at c.in_ok-fb_type.ensures) in
    rw (c.fields.ensures.inside (omega (arith, a.cut.in_file, room))) (fb-type-step _ _ (entry _ _) (rw c.in-Some.is at c.in_ok-fb_type.ensures))
