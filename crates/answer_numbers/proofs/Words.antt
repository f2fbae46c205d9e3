-- A number is that of its own bytes, low byte first.
use Prim.Native.Nat.{ℕ, ◌^◌, ◌<◌}
use native.Mathlib.Omega.{arith}
use mathlib.Core.Path.{◌≡◌}
use Rattle.reading.specs.Numbers.{le, bytes_le}
use Rattle.reading.proofs.Le.{le-all}

pub of_four : (n : ℕ) → n < 2 ^ 32 → le (bytes_le 4 n) ≡ n
of_four n h = le-all 4 n (omega arith)

pub of_eight : (n : ℕ) → n < 2 ^ 64 → le (bytes_le 8 n) ≡ n
of_eight n h = le-all 8 n (omega arith)
