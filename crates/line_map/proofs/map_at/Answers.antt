-- `line_map::map_at` meets its contract.
use Rattle.std.proofs.Common.{ap, ◌∙◌}
use Rattle.base.specs.Answers.{got_from}
use Rattle.line_map.specs.Map.{lines_of}
use Rattle.line_map.proofs.Entries.{map-got}
use Rattle.line_map.proofs.map_at.Goals as goal

pub returns : goal.returns
returns c =
    let a = c.args in
    ap (got_from (λ map. lines_of map.now)) c.ok_or.ensures.value ∙ map-got a.s.now a.t.at _ a.t.count _ c.min.ensures c.as_chunks.ensures.front _ c.get.ensures.lookup.0
