-- The claims of `specs/Laws.antt`.
use Prim.Native.Nat.{ℕ, zero, suc, ◌+◌, ◌-◌, ◌*◌, ◌/◌, ◌%◌, ◌<◌, ◌≤◌, ◌^◌}
use mathlib.Core.Path.{◌≡◌, refl, sym, ◌∙◌, ap}
use mathlib.Core.Bool.{Bool, true, false, cond}
use mathlib.Core.List.{List, [], ◌∷◌, ◌++◌}
use mathlib.Core.Option.{Option, none, some}
use Prim.Native.Char.{code}
use native.Mathlib.Omega.{arith}
use native.Mathlib.Nat.{pow-succ'}
use lib.Dec.{ltb}
use lib.ListN.{length, get_or, get_or-append, length-append}
use borrow.Author.Tests.{ltb-true, ltb-false, le-leb}
use Rattle.text.specs.Text.{digits, decimal, hexes}
use Rattle.text.specs.Laws.{is_digit, read_behind, read_decimal, Laws}
use Rattle.text.proofs.Parts.{digits-one, digits_more, hexes-append, hexes_length}

a-digit : (d : ℕ) → d < 10 → is_digit (code "0" + d) ≡ true
a-digit d h = rw (le-leb 48 (48 + d) (omega arith), le-leb (48 + d) 57 (omega arith))

-- digits that are read, and one more behind them
guarded : (z : Bool) (x y : Option ℕ) (m k : ℕ) → (x ≡ some m → y ≡ some k) → cond z x none ≡ some m → cond z y none ≡ some k
guarded true x y m k h e = h e
guarded false x y m k h e = cc

one_more : (n : ℕ) (ds : List ℕ) (d m : ℕ) → d < 10 → read_behind n ds ≡ some m → read_behind n (ds ++ ((code "0" + d) ∷ [])) ≡ some (10 * m + d)
unfolding read_behind
one_more n [] d m h e = rw (a-digit d h) (let q : n ≡ m = cc in ap some (omega arith))
one_more n (x ∷ ds) d m h e = guarded (is_digit x) _ _ m (10 * m + d) (one_more (10 * n + (x - 48)) ds d m h) e

-- a number is read back from its digits
back_one : (k n : ℕ) → n < 10 → read_decimal (digits (suc k) n) ≡ some n
unfolding read_behind
back_one k n h = rw (digits-one k n h, a-digit n h) (ap some (omega arith))

back_more : (k n : ℕ) → 10 ≤ n → read_decimal (digits k (n / 10)) ≡ some (n / 10) → read_decimal (digits (suc k) n) ≡ some n
back_more k n h e =
    rw (digits_more k n h) (one_more 0 (digits k (n / 10)) (n % 10) (n / 10) (omega arith) e ∙ ap some (omega arith))

back_by : (z : Bool) (k n : ℕ) → ltb n 10 ≡ z → (10 ≤ n → read_decimal (digits k (n / 10)) ≡ some (n / 10)) → read_decimal (digits (suc k) n) ≡ some n
back_by true k n e rest = back_one k n (ltb-true n 10 e)
back_by false k n e rest = back_more k n (ltb-false n 10 e) (rest (ltb-false n 10 e))

back : (k n : ℕ) → 0 < k → n < 10 ^ k → read_decimal (digits k n) ≡ some n
back zero n p h = absurd (omega arith)
back (suc zero) n p h = back_one zero n (omega arith)
back (suc (suc k)) n p h = back_by (ltb n 10) (suc k) n refl (λ large. back (suc k) (n / 10) (omega arith) (omega (arith, pow-succ' 10 (suc k))))

-- a number above 0 has digits, and the first of them is not "0"
pub record Starts (ds : List ℕ) : Type 0 where
  pub some-digit : 0 < length ds
  pub no_zero : get_or ds 0 0 ≡ 48 → ⊥

starts-one : (k n : ℕ) → 0 < n → n < 10 → Starts (digits (suc k) n)
starts-one k n p h = rw (digits-one k n h) (record { some-digit = omega arith; no_zero = λ e. omega arith })

starts_more : (k n : ℕ) → 10 ≤ n → Starts (digits k (n / 10)) → Starts (digits (suc k) n)
starts_more k n h s =
    let ds = digits k (n / 10) in
    let d = (48 + n % 10) ∷ [] in
    rw (digits_more k n h)
    (record { some-digit = omega (arith, length-append ds d); no_zero = λ e. s.no_zero (sym (get_or-append ds d 0 0 s.some-digit) ∙ e) })

starts_by : (z : Bool) (k n : ℕ) → ltb n 10 ≡ z → 0 < n → (10 ≤ n → Starts (digits k (n / 10))) → Starts (digits (suc k) n)
starts_by true k n e p rest = starts-one k n p (ltb-true n 10 e)
starts_by false k n e p rest = starts_more k n (ltb-false n 10 e) (rest (ltb-false n 10 e))

starts : (k n : ℕ) → 0 < n → n < 10 ^ k → Starts (digits k n)
starts zero n p h = absurd (omega arith)
starts (suc k) n p h = starts_by (ltb n 10) k n refl p (λ large. starts k (n / 10) (omega arith) (omega (arith, pow-succ' 10 k)))

no-zero-in-front : (z : Bool) (n : ℕ) → n < 2 ^ 64 → ltb 0 n ≡ z → get_or (decimal n) 0 0 ≡ 48 → n ≡ 0
no-zero-in-front true n h t e = absurd ((starts 20 n (ltb-true 0 n t) (omega arith)).no_zero e)
no-zero-in-front false n h t e = omega (arith, ltb-false 0 n t)

pub laws : Laws
unfolding digits hexes
laws =
    record {
      decimal-back = λ n h. back 20 n (omega arith) (omega arith);
      no-zero-in-front = λ n h. no-zero-in-front (ltb 0 n) n h refl;
      zero = refl;
      hex-digits = refl;
      high-first = refl;
      hex-length = hexes_length;
      hex-parts = hexes-append;
    }
