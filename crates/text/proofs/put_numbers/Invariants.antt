-- `text::put_numbers` meets its contract. The loop's invariant: what stands for the elements passed has been written.
use Rattle.text.specs.Text.{numbers}
use Rattle.lent.proofs.Writing.{SoFar}
use Rattle.text.proofs.put_numbers.Given as goal

abbrev pub invariant-loop-n : goal.invariant-loop-n
invariant-loop-n l = SoFar numbers l.initial.out l.at l.ns l.out l.n-index l.next
