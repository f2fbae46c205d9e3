-- `record::Container::enumeration` meets its contract: 10 or 15 where the record has no debug, else what the debug section answers.
use Rattle.std.proofs.Common.{refl, ap, ◌∙◌}
use Rattle.std.proofs.lemmas.Result.{err_from_is_err_and}
use Rattle.reading.specs.Answer.{Got, found, ◌>>=◌}
use Rattle.format.specs.Parts.{Place}
use Rattle.format.specs.Lookups.{EnumerationHead, enumeration_of, debug_answers}
use Rattle.base.specs.Section.{place_in}
use Rattle.record.specs.Answers.{container_in}
use Rattle.debug_entries.specs.Answers.{with_values}
use Rattle.record.proofs.Lookups.{debug_err, debug_ok, debug_is}
use Rattle.record.proofs.Container.enumeration.Goals as goal

pub returns-in_err-debug_section : goal.returns-in_err-debug_section
returns-in_err-debug_section c =
    let a = c.args in
    let e = err_from_is_err_and c.from_residual.result c.from_residual.ensures.1 in
    rw (e.1, e.2)
    (ap (λ (y : Got (EnumerationHead Place)). y >>= λ h. found (with_values a.self.header.sections.debug_section.offset h)) (debug_err _ _ (enumeration_of a.index) _ c.in_err-debug_section.ensures))

pub returns : goal.returns
returns c =
    let a = c.args in
    let r = container_in a.self in
    c.enumeration.ensures
    ∙ ap (λ (y : Got (EnumerationHead Place)). y >>= λ h. found (with_values (place_in c.in_ok-debug_section.field-0).offset h)) (debug_ok _ r (enumeration_of a.index) _ _ c.in_ok-debug_section.ensures refl)
    ∙ ap (λ (p : Place). (debug_answers a.file.now r).enumeration a.index >>= λ h. found (with_values p.offset h)) (debug_is _ r _ c.in_ok-debug_section.ensures)
