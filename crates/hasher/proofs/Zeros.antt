-- The trailing zero bits of a count, which give the number of joins.
use mathlib.Core.Path.{◌≡◌, refl, ap}
use Prim.Native.Nat.{ℕ, zero, suc, ◌+◌, ◌/◌, ◌%◌, ◌^◌, ◌≤◌, ◌<◌}
use native.Mathlib.Nat.{not-suc-le-zero, le_of_suc-le-suc}
use native.Mathlib.Omega.{arith}
use lib.Count.{count_trailing_zeros, under}

-- 2 ^ d has d trailing zeros
pub zeros-pow : (w d : ℕ) → d ≤ w → count_trailing_zeros w (2 ^ d) ≡ d
unfolding count_trailing_zeros
zeros-pow zero zero h = refl
zeros-pow zero (suc d) h = absurd (not-suc-le-zero h)
zeros-pow (suc w) zero h = refl
zeros-pow (suc w) (suc d) h =
    let even : 2 ^ suc d % 2 ≡ 0 = omega arith in
    let half : 2 ^ suc d / 2 ≡ 2 ^ d = omega arith in
    rw (even, half) (ap suc (zeros-pow w d (le_of_suc-le-suc h)))

-- adding a larger power of two changes no trailing zeros
pub zeros-add : (w d m : ℕ) → 0 < m → m < 2 ^ d → count_trailing_zeros w (2 ^ d + m) ≡ count_trailing_zeros w m
unfolding count_trailing_zeros
zeros-add zero d m p h = refl
zeros-add (suc w) zero m p h = absurd (omega arith)
zeros-add (suc w) (suc d) m p h =
    let same : (2 ^ suc d + m) % 2 ≡ m % 2 = omega arith in
    let half : (2 ^ suc d + m) / 2 ≡ 2 ^ d + m / 2 = omega arith in
    rw (same, half) (go (λ q. zeros-add w d (m / 2) q (omega arith)) (m % 2) refl)
  where
    go : (0 < m / 2 → count_trailing_zeros w (2 ^ d + m / 2) ≡ count_trailing_zeros w (m / 2))
        → (r : ℕ) → m % 2 ≡ r → under r (count_trailing_zeros w (2 ^ d + m / 2)) ≡ under r (count_trailing_zeros w (m / 2))
    go rest zero e = ap suc (rest (omega arith))
    go rest (suc r) e = refl
