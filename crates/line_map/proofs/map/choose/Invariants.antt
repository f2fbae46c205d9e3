-- `line_map::map::choose` meets its contract. The loop's invariant: what is left, with the best so far, decides.
use Rattle.std.proofs.Common.{◌≡◌, ◌-◌, ◌≤◌, length, drop}
use Rattle.std.proofs.Math.Option.{none}
use Rattle.line_map.specs.Answers.{maybe_line}
use Rattle.line_map.specs.Choice.{choice_of}
use Rattle.line_map.specs.Map.{lines_of}
use Rattle.line_map.proofs.map.choose.Given as goal

abbrev pub invariant-loop-i : goal.invariant-loop-i
invariant-loop-i l =
    let f = l.function_id.0 in
    (l.i ≤ length l.map) × (choice_of f l.bytecode_offset (maybe_line l.best) (lines_of (drop l.i l.map)) ≡ choice_of f l.bytecode_offset none (lines_of l.map))

abbrev pub decreases-loop-i : goal.decreases-loop-i
decreases-loop-i l = length l.map - l.i
