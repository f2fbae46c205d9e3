-- `FbTypeDescriptor::read` meets its contract: too few bytes for a head, or the walk over the fields behind it.
use Rattle.std.proofs.Common.{arith}
use Rattle.std.proofs.lemmas.Result.{err_from_is_err_and}
use Rattle.reading.specs.Places.{stops_by, on_to}
use Rattle.base.proofs.Entries.{read_short}
use Rattle.type_entries.proofs.Entries.{head-needs, head-walk}
use Rattle.type_entries.proofs.FbTypeDescriptorEntry.read.Goals as goal

pub returns-then-left-lt-FB_TYPE_HEAD_SIZE : goal.returns-then-left-lt-FB_TYPE_HEAD_SIZE
returns-then-left-lt-FB_TYPE_HEAD_SIZE c = read_short _ c.args.cut.bytes.now head-needs c.args.at (omega arith)

pub returns-in_err-end : goal.returns-in_err-end
returns-in_err-end c =
    let e = err_from_is_err_and c.from_residual.result c.from_residual.ensures.1 in
    let a = c.args in
    rw (e.1, e.2) (head-walk a.cut.bytes.now a.at _ _ (omega arith) c.u16_at.ensures c.u8_at.ensures (stops_by _) (rw (c.fields-fields.ensures.inside (omega (arith, a.cut.in_file))) at c.in_err-end.ensures))

pub returns : goal.returns
returns c =
    let a = c.args in
    head-walk a.cut.bytes.now a.at _ _ (omega arith) c.u16_at.ensures c.u8_at.ensures (on_to _) (rw (c.fields-fields.ensures.inside (omega (arith, a.cut.in_file))) at c.in_ok-end.ensures)
