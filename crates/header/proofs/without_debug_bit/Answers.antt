-- `header::without_debug_bit` meets its contract: the flags are the bit and the rest.
use Rattle.std.proofs.Common.{arith}
use Rattle.std.proofs.lemmas.Nat.{and-not, and_comm}
use Rattle.std.proofs.lemmas.Nat.Bits.{and_pow}
use Rattle.header.proofs.without_debug_bit.Goals as goal

pub returns : goal.returns
returns c =
    let f = c.args.flags in
    omega (arith, and-not 8 2 f (omega arith) (omega arith), and_comm 253 f, and_comm 2 f, and_pow f 1)
