-- `UserFbDescriptor::read` meets its contract: too few bytes, or the user FB that stands there.
use Rattle.std.proofs.Common.{arith}
use Rattle.base.proofs.Entries.{read_short, read_ok}
use Rattle.format.proofs.Widths.{user-fb-fixed}
use Rattle.type_entries.proofs.Entries.{user-fb-whole}
use Rattle.type_entries.proofs.UserFbDescriptorEntry.read.Goals as goal

pub returns-then-left-lt-USER_FB_DESCRIPTOR_SIZE : goal.returns-then-left-lt-USER_FB_DESCRIPTOR_SIZE
returns-then-left-lt-USER_FB_DESCRIPTOR_SIZE c = read_short _ c.args.cut.bytes.now user-fb-fixed.short c.args.at (omega arith)

pub returns : goal.returns
returns c =
    let a = c.args in
    read_ok _ a.cut.bytes.now a.at _ _ (omega arith) (user-fb-whole a.cut.bytes.now a.at _ (omega arith) c.u16_at.ensures c.u16_at-2.ensures c.u16_at-3.ensures c.u8_at.ensures)
