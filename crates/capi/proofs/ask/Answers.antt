-- `capi::ask` meets its contract.
use Rattle.std.proofs.Common.{◌∙◌, ap}
use Rattle.answer_numbers.specs.Answers.{numbers_of}
use Rattle.capi.proofs.Lookups.{ask-refused, ask-found}
use Rattle.capi.proofs.ask.Goals as goal

pub returns-in-Err : goal.returns-in-Err
returns-in-Err c = let a = c.args in c.refusal.ensures ∙ ap numbers_of (ask-refused a.file.now _ c.in-Err.ensures a.kind a.index a.second)

pub returns-in-Ok : goal.returns-in-Ok
returns-in-Ok c = let a = c.args in c.lookup.ensures ∙ ap numbers_of (ask-found a.file.now _ c.in-Ok.ensures a.kind a.index a.second)
