-- `lent::copy_to` meets its contract. The loop's invariant: the first i items are copied.
use Rattle.std.proofs.Common.{◌≡◌}
use lib.Seq.{paste}
use Rattle.lent.proofs.copy_to.Given as goal

abbrev pub invariant-loop-i : goal.invariant-loop-i
invariant-loop-i g l = l.part ≡ paste l.initial.part 0 l.items l.i
