-- `type_section::find_fb_type` meets its contract: the FB type at an index stands where the walk over those before it ends.
use Rattle.std.proofs.Common.{arith}
use Rattle.type_entries.proofs.Sizes.{head-room}
use Rattle.type_section.proofs.Finding.{fb-type-out, fb-type-passed, fb-type-reads, fb-type-found}
use Rattle.type_section.proofs.find_fb_type.Goals as goal

pub returns-then-t-index : goal.returns-then-t-index
returns-then-t-index c = fb-type-out _ _ c.in_ok-t.ensures.read _ (omega arith)

pub returns-in_err-at : goal.returns-in_err-at
returns-in_err-at c = fb-type-passed _ _ c.in_ok-t.ensures.read _ (omega arith) _ c.in_err-at.ensures

pub returns-in_err-fb_type : goal.returns-in_err-fb_type
returns-in_err-fb_type c = fb-type-reads _ _ c.in_ok-t.ensures.read _ (omega arith) _ c.in_ok-at.ensures _ c.in_err-fb_type.ensures

pub returns : goal.returns
returns c = rw (c.fields.ensures.inside (omega (arith, c.args.cut.in_file, head-room _ _ _ _ c.in_ok-fb_type.ensures))) (fb-type-found _ _ c.in_ok-t.ensures.read _ (omega arith) _ c.in_ok-at.ensures _ _ c.in_ok-fb_type.ensures)
