-- `line_map::is_sorted` meets its contract: a map that the section does not hold is not sorted.
use Rattle.std.proofs.Common.{ap, ◌∙◌}
use Rattle.reading.specs.Answer.{found}
use Rattle.format.specs.Lines.{sorted}
use Rattle.line_map.specs.Lookups.{is_true}
use Rattle.line_map.proofs.Entries.{in_lines-found}
use Rattle.line_map.proofs.is_sorted.Goals as goal

pub returns-in-Ok : goal.returns-in-Ok
returns-in-Ok c = let a = c.args in c.never_falls.ensures ∙ ap is_true (in_lines-found a.s.now a.t.at a.t.count (λ es. found (sorted es)) _ c.in-Ok.ensures)
