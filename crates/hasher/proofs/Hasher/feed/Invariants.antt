-- `hasher::Hasher::feed` meets its contract. The loop's invariant: the bytes that are left, fed to the present state, give the result.
use Rattle.std.proofs.Common.{◌≡◌, ◌+◌, ◌*◌, length}
use Rattle.compression.specs.Sizes.{block_len}
use Rattle.hasher.specs.State.{fed_freely}
use Rattle.hasher.proofs.Hasher.feed.Given as goal

abbrev pub invariant-loop-rest : goal.invariant-loop-rest
invariant-loop-rest l = (length l.h.block ≡ block_len) × (fed_freely l.h l.rest ≡ fed_freely l.fn.self l.fn.s)

abbrev pub decreases-loop-rest : goal.decreases-loop-rest
decreases-loop-rest l = 2 * length l.rest + l.h.block_len
