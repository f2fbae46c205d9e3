-- `reading::u64_at` meets its contract, byte for byte.
use Prim.Native.Nat.{◌+◌}
use native.Mathlib.Omega.{arith}
use Rattle.reading.proofs.Le.{le_at_next, le_at_one}
use Rattle.reading.proofs.u64_at.Goals as goal

pub returns : goal.returns
returns c =
    let a = c.args in
    let s = a.s.now in
    omega (arith, c.from_le_bytes.ensures, le_at_next 8 s a.at (a.at + 1), le_at_next 7 s (a.at + 1) (a.at + 2), le_at_next 6 s (a.at + 2) (a.at + 3), le_at_next 5 s (a.at + 3) (a.at + 4), le_at_next 4 s (a.at + 4) (a.at + 5), le_at_next 3 s (a.at + 5) (a.at + 6), le_at_next 2 s (a.at + 6) (a.at + 7), le_at_one s (a.at + 7))
