-- `text::numbers_fit` meets its contract. The loop's invariant: what is left and the text of the numbers passed are as long as `left`.
use Prim.Native.Nat.{◌+◌}
use mathlib.Core.Path.{◌≡◌}
use lib.ListN.{length, take}
use Rattle.text.specs.Text.{numbers}
use Rattle.text.proofs.numbers_fit.Given as goal

abbrev pub invariant-loop-n : goal.invariant-loop-n
invariant-loop-n l = l.rest + length (numbers (take l.n-index l.ns)) ≡ l.left
