-- `utf8::eight` meets its contract: `n` is the count of the bytes of ASCII among the first `k`. Assumes nothing.
use Prim.Native.Nat.{◌-◌, ◌≤◌}
use lib.ListN.{length}
use Rattle.utf8.proofs.Ascii.{Counted}
use Rattle.utf8.proofs.eight.Given as goal

abbrev pub invariant-loop-k : goal.invariant-loop-k
invariant-loop-k l = (8 ≤ length l.s) × (l.k ≤ 8) × Counted l.s l.k l.n

abbrev pub decreases-loop-k : goal.decreases-loop-k
decreases-loop-k l = 8 - l.k
