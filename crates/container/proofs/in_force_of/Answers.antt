-- `container::in_force_of` meets its contract: none without debug or outside the file, and else those of the section.
use Rattle.std.proofs.Common.{sym, ap, ◌∙◌}
use Rattle.base.specs.Section.{place_in}
use Rattle.debug_tables.specs.Answers.{debug_counts_in, maybe_debug}
use Rattle.container.specs.Sections.{in_force_at}
use Rattle.container.proofs.Parts.{rows-nowhere, rows-there}
use Rattle.container.proofs.in_force_of.Goals as goal

pub returns-in-Err : goal.returns-in-Err
returns-in-Err c =
    let a = c.args in
    c.none_in_force.ensures
    ∙ rows-nowhere a.file.now (place_in a.section) _ (debug_counts_in c.in-Some.field-0) c.in-Err.ensures
    ∙ sym (ap (λ d. in_force_at a.file.now (place_in a.section) (maybe_debug d)) c.in-Some.is)

pub returns-in-Ok : goal.returns-in-Ok
returns-in-Ok c =
    let a = c.args in
    rows-there a.file.now (place_in a.section) _ (debug_counts_in c.in-Some.field-0) c.in-Ok.ensures c.rows_in_force.ensures
    ∙ sym (ap (λ d. in_force_at a.file.now (place_in a.section) (maybe_debug d)) c.in-Some.is)
