-- What is passed by sequences, and what that says of the valid length. Assumes nothing.
use mathlib.Core.Bool.{true, cond, and-true}
use mathlib.Core.List.{List, [], ◌∷◌, Memᴰ}
use mathlib.Core.Path.{◌≡◌, refl}
use Prim.Native.Nat.{ℕ, zero, suc, ◌-◌, ◌≤◌, ◌<◌}
use native.Mathlib.Nat.{not-suc-le-zero}
use native.Mathlib.Omega.{arith}
use lib.Dec.{T, leb→le}
use lib.ListN.{length, drop, get_or, replicate, length-drop, length-replicate}
use Rattle.std.specs.Prelude.{Some, None}
use Rattle.utf8.specs.Utf8.{Range, ◌to◌, IsRow, within, starts, well_formed, sequence_at, valid_up_to, if_any, Passed}
use Rattle.utf8.proofs.Table.{left, right, of_member, of_row}
use Rattle.utf8.proofs.Longest.{sequence-front, valid-none, valid-more}

-- the length of a sequence, and none
any_some : (k n : ℕ) → Some n ≡ if_any k → (0 < n) × (k ≡ n)
any_some zero n e = absurd (cc)
any_some (suc k) n e = let z : n ≡ suc k = cc in (omega arith, omega arith)

any_none : (k : ℕ) → None ≡ if_any k → k ≡ 0
any_none zero e = refl
any_none (suc k) e = absurd (cc)

pub fits : (s : List ℕ) (n : ℕ) → Some n ≡ if_any (sequence_at s) → (0 < n) × (n ≤ length s)
fits s zero e = absurd (omega (arith, (any_some _ zero e).0))
fits s (suc k) e = (omega arith, (sequence-front s k (any_some _ (suc k) e).1).fits)

pub none_left : (s rest : List ℕ) → Passed s rest → None ≡ if_any (sequence_at rest) → length s - length rest ≡ valid_up_to s
none_left s rest h e = omega (arith, valid-none rest (any_none _ e))

-- what is passed by a sequence, by one byte of ASCII and by several, and by a sequence of `n` bytes with a first byte from `r`
pub passed_more : {s rest : List ℕ} {n : ℕ} → Passed s rest → Some n ≡ if_any (sequence_at rest) → Passed s (drop n rest)
passed_more {n = zero} h e = h
passed_more {rest = rest} {n = suc k} h e =
    let f = fits rest (suc k) e in
    let m = valid-more rest k (any_some _ (suc k) e).1 in
    let l = length-drop (suc k) rest in
    record { within = omega arith; valid = omega arith }

pub passed_then : {s x y : List ℕ} → Passed s x → Passed x y → Passed s y
passed_then h k = record { within = omega arith; valid = omega arith }

pub ascii_byte : (s rest : List ℕ) → Passed s rest → 1 ≤ length rest → get_or rest 0 0 ≤ 0x7F → Passed s (drop 1 rest)
ascii_byte s [] h l b = absurd (not-suc-le-zero l)
ascii_byte s (a ∷ x) h l b = passed_more h (of_row 0 (a ∷ x) a (Some 1) refl (omega arith, b) refl)

pub ascii_run : (n : ℕ) (s rest : List ℕ) → Passed s rest → T (starts (replicate n (0x00 to 0x7F)) rest) → Passed s (drop n rest)
ascii_run zero s rest h t = h
ascii_run (suc n) s [] h t = absurd t
ascii_run (suc n) s (b ∷ x) h t = ascii_run n s x (ascii_byte s (b ∷ x) h (omega arith) (leb→le b 0x7F (search (left, right)))) (search right)

pub alike : (n k : ℕ) (r : Range) (s rest : List ℕ) → Passed s rest → 2 ≤ n → IsRow (r ∷ replicate (n - 1) (0x80 to 0xBF)) → true ≡ starts (r ∷ []) rest
    → Some k ≡ cond (starts (0x80 to 0xBF ∷ replicate (n - 2) (0x80 to 0xBF)) (drop 1 rest)) (Some n) None → Passed s (drop k rest)
alike n k r s [] h p m t e = absurd (cc)
alike n k r s (b ∷ x) h p m t e =
    let z : n - 1 ≡ suc (n - 2) = omega arith in
    let row : List Range = r ∷ (0x80 to 0xBF ∷ replicate (n - 2) (0x80 to 0xBF)) in
    let i : Memᴰ row well_formed = rw z at m in
    let w : T (within r b) = rw (← and-true (within r b), ← t) tt in
    let q : suc (suc (length (replicate (n - 2) (0x80 to 0xBF)))) ≡ n = omega (arith, length-replicate (n - 2) (0x80 to 0xBF)) in
    passed_more h (of_member row (b ∷ x) b (Some k) i refl (leb→le r.low b (search left), leb→le b r.high (search right)) (rw q e))
