-- `lookup_kinds::of_kind` meets its contract.
use mathlib.Core.Path.{◌∙◌, ap}
use Rattle.format.specs.Lookups.{debug_answers}
use Rattle.record.specs.Answers.{container_in}
use Rattle.answer_numbers.specs.Answers.{numbers_of}
use Rattle.answer_numbers.specs.Fields.{answer_numbers, enumeration_numbers}
use Rattle.lookup_kinds.specs.Kinds.{looked_up, lookups_of}
use Rattle.lookup_kinds.proofs.ByKind.{head_numbers}
use Rattle.lookup_kinds.proofs.of_kind.Goals as goal

pub returns-in-Enumeration : goal.returns-in-Enumeration
unfolding looked_up lookups_of
returns-in-Enumeration c =
    rw c.in-Enumeration.is
    (c.answer_numbers-in-Enumeration.ensures ∙ ap numbers_of (ap (answer_numbers (λ e. enumeration_numbers e.head)) c.enumeration.ensures ∙ head_numbers _ ((debug_answers c.args.file.now (container_in c.args.c)).enumeration c.args.index)))
