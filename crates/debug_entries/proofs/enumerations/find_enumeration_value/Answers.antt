-- `debug_entries::enumerations::find_enumeration_value` meets its contract: the name in the table of the enumeration's values.
use Rattle.std.proofs.Common.{◌≡◌, ◌∙◌}
use Rattle.std.proofs.lemmas.Result.{err_from_is_err_and}
use Rattle.format.specs.Parts.{by_place}
use Rattle.format.specs.Debug.{name}
use Rattle.base.specs.Cut.{place_of}
use Rattle.base.specs.Picked.{picked}
use Rattle.debug_entries.specs.Answers.{enumeration_in}
use Rattle.debug_entries.specs.Lookups.{picked_value}
use Rattle.debug_entries.proofs.Values.{value-found}
use Rattle.debug_entries.proofs.enumerations.find_enumeration_value.Goals as goal
use Rattle.debug_entries.proofs.enumerations.find_enumeration_value.Goals.{In-Some}

-- the enumeration is found
of-value : (c : In-Some) → let a = c.args in let t = c.in-Some.entry.values in
    picked (name (by_place (place_of a.cut))) a.cut.bytes.now t.at t.count a.value ≡ picked_value (by_place (place_of a.cut)) a.cut.bytes.now a.t.at a.t.count a.index a.value
of-value c = let a = c.args in value-found a.cut.offset a.cut.bytes.now a.t.at a.t.count a.index a.value (enumeration_in c.in-Some.entry) (rw c.in-Some.is at c.in_ok-entry.ensures)

pub returns-in_err-text : goal.returns-in_err-text
returns-in_err-text c =
    let e = err_from_is_err_and c.from_residual-in_err-text.result c.from_residual-in_err-text.ensures.1 in
    rw (e.1, e.2) (c.in_err-text.ensures ∙ of-value (goal.at.returns-in_err-text c).In-Some)

pub returns-in_default-2 : goal.returns-in_default-2
returns-in_default-2 c = (rw c.in_default-2.is at c.in_ok-text.ensures) ∙ of-value (goal.at.returns-in_default-2 c).In-Some

pub returns : goal.returns
returns c = (rw c.in-Some-2.is at c.in_ok-text.ensures) ∙ of-value (goal.at.returns c).In-Some
