-- `line_map::map::never_falls` meets its contract: std's order of the keys is that of the entries.
use Rattle.std.proofs.Common.{rules, tests}
use Rattle.std.proofs.lemmas.Fn.{always_returns_same}
use Rattle.line_map.specs.Map.{line_of}
use Rattle.line_map.proofs.Sorting.{sorted_by}
use Rattle.line_map.proofs.map.never_falls.Goals as goal

pub returns : goal.returns
returns c =
    sorted_by c.args.map.now _
    (c.is_sorted_by_key.ensures.cases (λ row. ((line_of row).function, (line_of row).offset)) (always_returns_same _ _ _ (λ a r q k. search (rules, tests))))
