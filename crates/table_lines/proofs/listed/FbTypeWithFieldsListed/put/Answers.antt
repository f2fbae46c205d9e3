-- `FbTypeWithFields::put` meets its contract: the FB type's line, then its fields'.
use Rattle.base.specs.Section.{place_in}
use Rattle.lent.proofs.Fitting.{puts-at, puts-free, free-stop, wrote-free}
use Rattle.type_section.specs.Lookups.{next_field_at}
use Rattle.entry_lines.specs.Lines.{field_line}
use Rattle.table_lines.specs.Walks.{entries_text}
use Rattle.table_lines.proofs.listed.FbTypeWithFieldsListed.put.Goals as goal

pub returns-in_err-n : goal.returns-in_err-n
returns-in_err-n c =
    let a = c.args in
    let fields = entries_text (next_field_at a.file.now (place_in a.section)) (λ i. field_line) a.self.fields in
    rw c.from_residual.ensures (free-stop fields (puts-free c.in_err-n.ensures))

pub returns : goal.returns
returns c = wrote-free (puts-at c.in_ok-n.ensures) c.put_entries.ensures
