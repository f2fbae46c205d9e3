-- `type_section::find_field` meets its contract: the entry at an index of the table of fields.
use Rattle.std.proofs.Common.{◌∙◌}
use Rattle.std.proofs.lemmas.Result.{err_from_is_err_and}
use Rattle.base.specs.Error.{fault_of}
use Rattle.type_entries.specs.Answers.{field_in}
use Rattle.base.proofs.Entries.{or_out}
use Rattle.type_section.proofs.Finding.{field-is}
use Rattle.type_section.proofs.find_field.Goals as goal

pub returns-in_err-find_by_width : goal.returns-in_err-find_by_width
returns-in_err-find_by_width c =
    let e = err_from_is_err_and c.from_residual-in_err-find_by_width.result c.from_residual-in_err-find_by_width.ensures.1 in
    rw (e.1, e.2) (field-is _ _ _ _ c.in_ok-fields.ensures _ λ xs rest d. c.in_err-find_by_width.ensures.indexes xs rest d _)

pub returns : goal.returns
returns c = rw c.ok_or.ensures.value (field-is _ _ _ _ c.in_ok-fields.ensures _ λ xs rest d. or_out fault_of field_in _ _ ∙ c.in_ok-find_by_width.ensures.indexes xs rest d _)
