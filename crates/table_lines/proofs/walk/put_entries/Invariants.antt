-- `table_lines::walk::put_entries` meets its contract: the loop keeps `Left`, and each need is one of its laws.
use Rattle.base.specs.Section.{place_in}
use Rattle.table_lines.proofs.Walking.{Left}
use Rattle.table_lines.proofs.walk.put_entries.Given as goal

abbrev pub invariant-loop-index : goal.invariant-loop-index
invariant-loop-index g l =
    Left (g.E.Listed.walk l.file (place_in l.section)) (g.E.Listed.line l.file (place_in l.section)) l.initial.out l.at l.fn.first l.out l.index l.next l.rest
