-- `text::decimal_length` meets its contract.
use mathlib.Core.Path.{sym, ap}
use native.Mathlib.Omega.{arith}
use lib.ListN.{length}
use Rattle.text.proofs.Parts.{digits-one, digits-many}
use Rattle.text.proofs.decimal_length.Goals as goal

pub returns-in-None : goal.returns-in-None
returns-in-None c = let e = c.in-None.ensures.none in sym (ap length (digits-one 19 c.args.n (omega arith)))

pub returns-in-Some : goal.returns-in-Some
returns-in-Some c =
    let e = c.in-Some.ensures in
    sym (digits-many 20 c.in-Some.power c.args.n e.bound e.power_le e.next_power_gt)
