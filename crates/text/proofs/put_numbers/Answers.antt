use mathlib.Core.Path.{refl}
use native.Mathlib.Omega.{arith}
use lib.ListN.{take}
use Rattle.text.specs.Text.{numbers}
use Rattle.lent.proofs.Writing.{so-far-start, so-far-next, so-far-end}
use Rattle.text.proofs.Parts.{numbers-snoc, numbers_part}
use Rattle.text.proofs.put_numbers.Goals as goal

pub loop-n-init : goal.loop-n-init
unfolding numbers
loop-n-init c = so-far-start numbers _ _ _ refl (omega arith)

pub put_number-next-requires : goal.put_number-next-requires
put_number-next-requires c =
    let l = c.loop-n in
    let ns = c.args.ns.now in
    omega (arith, numbers_part ns l.n-index (omega arith))

pub loop-n-preserved : goal.loop-n-preserved
unfolding numbers
loop-n-preserved c =
    let l = c.loop-n in
    let ns = c.args.ns.now in
    so-far-next numbers _ _ _ l.invariant (omega arith) (numbers-snoc (take l.n-index ns) _) c.put_number-next.auto.out c.put_number-next.ensures

pub returns : goal.returns
returns c = so-far-end numbers _ _ _ c.loop-n.invariant (omega arith)
