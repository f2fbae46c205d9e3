-- `line_map::lookup_source_location` meets its contract: 1, then 14, and then what the choice found.
use Rattle.std.proofs.Common.{◌≡◌, refl, ap, ◌∙◌}
use Rattle.std.specs.Prelude.{Option as Maybe, Some, None, ok_or}
use Rattle.reading.specs.Answer.{present}
use Rattle.format.specs.Faults.{no_line}
use Rattle.base.specs.Answers.{got_from}
use Rattle.base.specs.declared.error.ContainerError.TheVariants as e
use Rattle.line_map.specs.Answers.{line_in, maybe_line}
use Rattle.line_map.specs.declared.LineMapEntry.{LineMapEntry}
use Rattle.line_map.proofs.Choosing.{lookup-unsorted, lookup-chosen}
use Rattle.line_map.proofs.lookup_source_location.Goals as goal

-- no entry is 13
or-none : (o : Maybe LineMapEntry) → got_from line_in (ok_or o e.NoLine) ≡ present no_line (maybe_line o)
or-none None = refl
or-none (Some x) = refl

pub returns-then-not-never_falls : goal.returns-then-not-never_falls
returns-then-not-never_falls c = let a = c.args in lookup-unsorted a.s.now a.t.at a.t.count _ _ _ c.in_ok-map.ensures c.never_falls.ensures c.if-not-never_falls.true

pub returns : goal.returns
returns c =
    let a = c.args in
    ap (got_from line_in) c.ok_or.ensures.value ∙ or-none _
    ∙ lookup-chosen a.s.now a.t.at a.t.count _ _ _ c.in_ok-map.ensures c.never_falls.ensures c.if-not-never_falls.false c.choose.ensures
