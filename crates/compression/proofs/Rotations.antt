-- std's rotation is the definition's.
use Rattle.std.proofs.Common.{◌≡◌, ℕ, ◌+◌, ◌-◌, ◌*◌, ◌/◌, ◌%◌, ◌^◌, ◌<◌, sym, subst, ap, ◌∙◌, arith, add-zero, pow_pos}
use Rattle.std.specs.Int.{w32, rotate_right}
use Rattle.std.proofs.lemmas.Nat.{mod-pow-add, mod_low, or_comm, or_shifted, shl-shr, shr_below}
use Rattle.compression.specs.Word.{rotr}

pub rotated : (n x : ℕ) → 0 < n → n < 32 → x < 2 ^ 32 → rotate_right w32 x n ≡ rotr n x
rotated n x p q fits =
    let j : ℕ = 32 - n in
    let e : 32 ≡ n + j = omega arith in
    let s : 32 ≡ j + n = omega arith in
    let a : n % 32 ≡ n = omega arith in
    let b : j % 32 ≡ j = omega arith in
    let clear : x * 2 ^ j % 2 ^ j ≡ 0 = ap (λ (y : ℕ). y % 2 ^ j) (sym (add-zero _)) ∙ mod_low x j 0 (pow_pos j) in
    let low : x * 2 ^ j % 2 ^ 32 ≡ x % 2 ^ n * 2 ^ j =
    ap (λ (i : ℕ). x * 2 ^ j % 2 ^ i) e ∙ mod-pow-add (x * 2 ^ j) n j ∙ rw (shl-shr x j, clear) (add-zero _) in
    let high : x / 2 ^ n < 2 ^ j = shr_below x j n (subst (λ (i : ℕ). x < 2 ^ i) s fits) in
    rw (a, b, low, or_comm (x / 2 ^ n) (x % 2 ^ n * 2 ^ j), or_shifted (x % 2 ^ n) j (x / 2 ^ n) high) (omega arith)
