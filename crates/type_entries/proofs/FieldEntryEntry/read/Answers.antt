-- `FieldEntry::read` meets its contract: too few bytes, a type that is refused, or the field that stands there.
use Rattle.std.proofs.Common.{◌∙◌, ap, arith}
use Rattle.std.proofs.lemmas.Result.{err_from_is_err_and}
use Rattle.base.specs.Small.{field_type_of}
use Rattle.base.proofs.Entries.{read_short, read_err, read_ok}
use Rattle.format.proofs.Widths.{field-needs}
use Rattle.type_entries.proofs.Entries.{field-stop, field-whole}
use Rattle.type_entries.proofs.FieldEntryEntry.read.Goals as goal

pub returns-then-left-lt-FIELD_ENTRY_SIZE : goal.returns-then-left-lt-FIELD_ENTRY_SIZE
returns-then-left-lt-FIELD_ENTRY_SIZE c = read_short _ c.args.cut.bytes.now field-needs c.args.at (omega arith)

pub returns-in_err-field_type : goal.returns-in_err-field_type
returns-in_err-field_type c =
    let e = err_from_is_err_and c.from_residual.result c.from_residual.ensures.1 in
    let a = c.args in
    rw (e.1, e.2) (read_err _ a.cut.bytes.now a.at _ (field-stop a.cut.bytes.now a.at (omega arith) _ (c.in_err-field_type.ensures ∙ ap field_type_of c.u8_at.ensures)))

pub returns : goal.returns
returns c =
    let a = c.args in
    rw c.u16_at-field_extra.ensures (read_ok _ a.cut.bytes.now a.at _ _ (omega arith) (field-whole a.cut.bytes.now a.at (omega arith) _ (c.in_ok-field_type.ensures ∙ ap field_type_of c.u8_at.ensures)))
