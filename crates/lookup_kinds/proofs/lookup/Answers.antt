-- `lookup_kinds::lookup` meets its contract.
use mathlib.Core.Path.{◌∙◌, ap, sym}
use Rattle.record.specs.Answers.{container_in}
use Rattle.answer_numbers.specs.Answers.{numbers_of}
use Rattle.lookup_kinds.proofs.ByKind.{no_kind}
use Rattle.lookup_kinds.proofs.lookup.Goals as goal

pub returns-in-Err : goal.returns-in-Err
returns-in-Err c =
    let a = c.args in c.no_numbers.ensures ∙ ap numbers_of (sym (no_kind a.file.now (container_in a.c) a.kind a.index a.second c.in-Err.ensures))
