-- `hasher::chain` meets its contract. The loop's invariant: the blocks that are left, from the present chaining value on, give the result.
use Rattle.std.proofs.Common.{◌≡◌, ◌+◌, ◌*◌, ◌-◌, ◌/◌, length, drop}
use Rattle.compression.specs.Sizes.{block_len}
use Rattle.compression.specs.Chain.{chained}
use Rattle.hasher.proofs.chain.Given as goal

abbrev pub invariant-loop-i : goal.invariant-loop-i
invariant-loop-i l = chained (length l.s / block_len - l.i) l.c l.t (l.first + l.i) (drop (0 + block_len * l.i) l.s) ≡ chained (length l.s / block_len) l.fn.cv l.t l.first l.s
