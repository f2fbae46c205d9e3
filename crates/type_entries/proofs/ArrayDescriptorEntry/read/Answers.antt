-- `ArrayDescriptor::read` meets its contract: too few bytes, a stride that is refused, or the array that stands there.
use Rattle.std.proofs.Common.{arith}
use Rattle.std.proofs.lemmas.Result.{err_from_is_err_and}
use Rattle.base.proofs.Entries.{read_short, read_err, read_ok}
use Rattle.format.proofs.Widths.{array-needs}
use Rattle.type_entries.proofs.Entries.{array-stop, array-whole}
use Rattle.type_entries.proofs.ArrayDescriptorEntry.read.Goals as goal

pub returns-then-left-lt-ARRAY_DESCRIPTOR_SIZE : goal.returns-then-left-lt-ARRAY_DESCRIPTOR_SIZE
returns-then-left-lt-ARRAY_DESCRIPTOR_SIZE c = read_short _ c.args.cut.bytes.now array-needs c.args.at (omega arith)

pub returns-in_err-validate : goal.returns-in_err-validate
returns-in_err-validate c =
    let e = err_from_is_err_and c.from_residual.result c.from_residual.ensures.1 in
    let a = c.args in
    rw (e.1, e.2) (read_err _ a.cut.bytes.now a.at _ (array-stop a.cut.bytes.now a.at _ (omega arith) c.u8_at.ensures c.u32_at.ensures c.u16_at.ensures c.u32_at-2.ensures _ c.in_err-validate.ensures))

pub returns : goal.returns
returns c =
    let a = c.args in
    read_ok _ a.cut.bytes.now a.at _ _ (omega arith) (array-whole a.cut.bytes.now a.at _ (omega arith) c.u8_at.ensures c.u32_at.ensures c.u16_at.ensures c.u32_at-2.ensures c.in_ok-validate.ensures)
