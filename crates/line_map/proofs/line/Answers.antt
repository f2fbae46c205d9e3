-- `line_map::line` meets its contract: all entries have one size, so entry k is row k.
use mathlib.Core.List.{[]}
use Rattle.std.proofs.Common.{◌∙◌, ap}
use Rattle.format.specs.Faults.{no_entry}
use Rattle.reading.specs.Answer.{found, indexed}
use Rattle.line_map.specs.Map.{line_of}
use Rattle.line_map.proofs.Entries.{in_lines-found, line-past, line-found}
use Rattle.line_map.proofs.line.Goals as goal

pub returns-in_default : goal.returns-in_default
returns-in_default c =
    let a = c.args in
    line-past c.in_ok-map_at.field-0.now a.k c.in_default.ensures.lookup.3 ∙ in_lines-found a.s.now a.t.at a.t.count (λ es. indexed no_entry es a.k) _ c.in_ok-map_at.ensures

pub returns : goal.returns
returns c =
    let a = c.args in
    let q = c.in-Some.ensures.lookup.3 in
    ap found (c.entry_of.ensures ∙ ap line_of (q.1 [])) ∙ line-found c.in_ok-map_at.field-0.now a.k q.0 ∙ in_lines-found a.s.now a.t.at a.t.count (λ es. indexed no_entry es a.k) _ c.in_ok-map_at.ensures
