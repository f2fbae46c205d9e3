-- `utf8::sequence` meets its contract: each arm of the `match` is a row of the table, and the last one what lies between and behind them.
use mathlib.Core.Path.{refl}
use borrow.Author.Rules.{rules}
use Rattle.utf8.specs.Utf8.{◌to◌}
use Rattle.utf8.proofs.Table.{of_empty, of_row, of_none}
use Rattle.utf8.proofs.sequence.Goals as goal

pub returns-in_err-first : goal.returns-in_err-first
returns-in_err-first c = rw c.from_residual.ensures (of_empty _ c.in_err-first.ensures.value)

pub returns-in-224 : goal.returns-in-224
returns-in-224 c = of_row 2 _ _ _ c.in_ok-first.ensures.value (search rules) c.followed.ensures.value

pub returns-in-237 : goal.returns-in-237
returns-in-237 c = of_row 4 _ _ _ c.in_ok-first.ensures.value (search rules) c.followed-in-237.ensures.value

pub returns-in-240 : goal.returns-in-240
returns-in-240 c = of_row 6 _ _ _ c.in_ok-first.ensures.value (search rules) c.followed-in-240.ensures.value

pub returns-in-244 : goal.returns-in-244
returns-in-244 c = of_row 8 _ _ _ c.in_ok-first.ensures.value (search rules) c.followed-in-244.ensures.value

pub returns-in-0-to-127 : goal.returns-in-0-to-127
returns-in-0-to-127 c = of_row 0 _ _ _ c.in_ok-first.ensures.value (search rules) refl

pub returns-in-194-to-223 : goal.returns-in-194-to-223
returns-in-194-to-223 c = of_row 1 _ _ _ c.in_ok-first.ensures.value (search rules) c.followed-in-194-to-223.ensures.value

pub returns-in-225-to-236 : goal.returns-in-225-to-236
returns-in-225-to-236 c = of_row 3 _ _ _ c.in_ok-first.ensures.value (search rules) c.followed-in-225-to-236.ensures.value

pub returns-in-238-to-239 : goal.returns-in-238-to-239
returns-in-238-to-239 c = of_row 5 _ _ _ c.in_ok-first.ensures.value (search rules) c.followed-in-238-to-239.ensures.value

pub returns-in-241-to-243 : goal.returns-in-241-to-243
returns-in-241-to-243 c = of_row 7 _ _ _ c.in_ok-first.ensures.value (search rules) c.followed-in-241-to-243.ensures.value

pub returns-in_default : goal.returns-in_default
returns-in_default c = of_none (0x80 to 0xC1) _ _ tt c.in_ok-first.ensures.value (search rules)

pub returns-in_default-2 : goal.returns-in_default-2
returns-in_default-2 c = of_none (0xF5 to c.in_ok-first.field-0.now) _ _ tt c.in_ok-first.ensures.value (search rules)
