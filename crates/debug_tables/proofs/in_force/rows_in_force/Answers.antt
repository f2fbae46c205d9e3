use Rattle.std.proofs.Common.{◌∙◌, arith}
use Rattle.debug_tables.proofs.LaterRows.{short-rows, no_rows, counts-fit, next_row, all-rows}
use Rattle.debug_tables.proofs.in_force.rows_in_force.Goals as goal

pub returns-in_default : goal.returns-in_default
returns-in_default c = c.none_in_force-in_force.ensures ∙ short-rows _ c.in_default.ensures

pub loop-i-init : goal.loop-i-init
loop-i-init c = c.none_in_force-in_force.ensures ∙ no_rows c.in-Some.rows.now

pub put_row-in_force-requires : goal.put_row-in_force-requires
put_row-in_force-requires c = let l = c.loop-i in counts-fit c.in-Some.rows.now l.i l.in_force (omega (arith, c.in-Some.ensures.few)) (omega arith) l.invariant

pub loop-i-preserved : goal.loop-i-preserved
loop-i-preserved c = c.put_row-in_force.ensures ∙ next_row c.in-Some.rows.now _ _ _ _ c.loop-i-test.true c.u16_at.ensures c.from-kind.ensures c.loop-i.invariant

pub returns : goal.returns
returns c = c.loop-i.invariant ∙ all-rows _ c.in-Some.rows.now c.loop-i.i (omega arith) c.in-Some.ensures
