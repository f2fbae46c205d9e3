-- `base::digest::Digest::bytes` meets its contract. The loop's invariant: the bytes of the first i words are there.
use Rattle.std.proofs.Common.{◌*◌}
use Rattle.base.proofs.Bytes.{Written}
use Rattle.base.proofs.digest.Digest.bytes.Given as goal

abbrev pub invariant-loop-i : goal.invariant-loop-i
invariant-loop-i l = Written l.fn.self.0 l.b (4 * l.i)
