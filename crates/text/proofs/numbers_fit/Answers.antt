use mathlib.Core.Path.{sym}
use native.Mathlib.Omega.{arith}
use borrow.Author.Tests.{le-leb, lt-leb}
use lib.ListN.{length, get_or}
use lib.Seq.{take_all}
use Rattle.text.specs.Text.{numbers}
use Rattle.text.proofs.Parts.{digits-short, numbers_part, numbers-next}
use Rattle.text.proofs.numbers_fit.Goals as goal

pub loop-n-init : goal.loop-n-init
unfolding numbers
loop-n-init c = omega arith

pub overflow_add-size : goal.overflow_add-size
overflow_add-size c = omega (arith, digits-short 20 (get_or c.args.ns.now c.loop-n.n-index 0))

pub returns-then-rest-size : goal.returns-then-rest-size
returns-then-rest-size c =
    let l = c.loop-n in
    let a = c.args in
    let ns = a.ns.now in
    sym (lt-leb (length (numbers ns)) a.left (omega (arith, numbers_part ns l.n-index (omega arith))))

pub loop-n-preserved : goal.loop-n-preserved
loop-n-preserved c =
    let l = c.loop-n in
    let ns = c.args.ns.now in
    omega (arith, numbers-next ns l.n-index (omega arith))

pub returns : goal.returns
returns c =
    let l = c.loop-n in
    let a = c.args in
    let ns = a.ns.now in
    let h = rw (take_all l.n-index ns (omega arith)) at l.invariant in
    sym (le-leb (length (numbers ns)) a.left (omega arith))
