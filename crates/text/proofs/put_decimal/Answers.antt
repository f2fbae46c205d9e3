-- `text::put_decimal` meets its contract: std's digits are ours.
use mathlib.Core.Path.{ap}
use native.Mathlib.Omega.{arith}
use lib.ListN.{length}
use Rattle.text.proofs.Parts.{std_decimal, wrote_before_end}
use Rattle.text.proofs.put_decimal.Goals as goal

pub write_digits-requires : goal.write_digits-requires
write_digits-requires c = let e = ap length (std_decimal c.args.n (omega arith)) in (omega arith, omega arith)

pub returns : goal.returns
returns c =
    let w = c.write_digits.ensures in
    wrote_before_end c.write_digits.result (std_decimal c.args.n (omega arith)) c.requires (omega arith) w.start w.written w.before
