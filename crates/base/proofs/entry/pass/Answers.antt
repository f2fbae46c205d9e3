-- `base::entry::pass` meets its contract: the entries' bytes are there, or they are not.
use Rattle.std.proofs.Common.{arith}
use Rattle.base.proofs.Entries.{pass_short, pass_whole}
use Rattle.base.proofs.entry.pass.Goals as goal

pub returns-in_err-size : goal.returns-in_err-size
returns-in_err-size g c =
    let a = c.args in
    let z = rw c.WIDTH.ensures at c.in_err-size.ensures in
    rw c.from_residual.ensures (pass_short _ _ (g.met.E.Plain.fixed _) a.n a.at (omega (arith, a.cut.in_file, z)))

pub returns-then-left-size : goal.returns-then-left-size
returns-then-left-size g c =
    let a = c.args in
    let z = rw c.WIDTH.ensures at c.in_ok-size.ensures in
    pass_short _ _ (g.met.E.Plain.fixed _) a.n a.at (omega (arith, c.if-left-size.true, c.left.ensures, c.min-at.ensures, z.1))

pub returns : goal.returns
returns g c =
    let a = c.args in
    let z = rw c.WIDTH.ensures at c.in_ok-size.ensures in
    rw (c.min-at.ensures, z.1) (pass_whole _ _ (g.met.E.Plain.fixed _) a.n a.at (omega (arith, c.if-left-size.false, c.left.ensures, c.min-at.ensures, z.1)))
