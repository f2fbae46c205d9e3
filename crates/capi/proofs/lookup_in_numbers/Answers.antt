-- `capi::lookup_in_numbers` meets its contract.
use Rattle.std.proofs.Common.{◌∙◌, ap}
use Rattle.answer_numbers.specs.Answers.{numbers_of}
use Rattle.capi.proofs.Lookups.{lookup-in-numbers-none, lookup-in-numbers-some}
use Rattle.capi.proofs.lookup_in_numbers.Goals as goal

pub returns-in-None : goal.returns-in-None
returns-in-None c = let a = c.args in c.no_numbers.ensures ∙ ap numbers_of (lookup-in-numbers-none a.file.now a.«record».now c.in-None.ensures a.kind a.index a.second)

pub returns-in-Some : goal.returns-in-Some
returns-in-Some c = let a = c.args in c.lookup.ensures ∙ ap numbers_of (lookup-in-numbers-some a.file.now a.«record».now _ c.in-Some.ensures a.kind a.index a.second)
