-- `debug_tables::in_force::rows_in_force` meets its contract. The loop's invariant: the rows in front of the row at hand.
use Rattle.std.proofs.Common.{◌≡◌, take}
use Rattle.format.specs.InForce.{in_force_of}
use Rattle.debug_tables.specs.Answers.{rows_in_force}
use Rattle.debug_tables.proofs.in_force.rows_in_force.Given as goal

abbrev pub invariant-loop-i : goal.invariant-loop-i
invariant-loop-i l = rows_in_force l.in_force ≡ in_force_of (take l.i l.rows)
