-- A constant's number and its eight bytes, low byte first.
use Prim.Native.Nat.{ℕ, zero, suc, ◌+◌, ◌*◌, ◌-◌, ◌/◌, ◌%◌, ◌^◌, ◌≤◌, ◌<◌}
use native.Mathlib.Nat.{sub-zero, add-sub_cancel_left}
use native.Mathlib.Omega.{arith}
use mathlib.Core.Path.{◌≡◌, refl, ap, ◌∙◌}
use mathlib.Core.List.{List, [], ◌∷◌, ◌++◌}
use lib.ListN.{length, take, drop, replicate}
use Rattle.std.proofs.lemmas.List.{take_all, drop-replicate}
use Rattle.reading.specs.Numbers.{le, le_at, bytes_le}
use Rattle.reading.proofs.Le.{Bytes, bytes-part, le-all, le-take-fill}
use Rattle.reading.proofs.Parts.{length_part}

bytes-zero : (w : ℕ) → bytes_le w 0 ≡ replicate w 0
unfolding bytes_le
bytes-zero zero = refl
bytes-zero (suc w) = ap (λ (l : List ℕ). 0 ∷ l) (bytes-zero w)

-- bytes put together to a number and taken apart again, in a greater width: zeros fill the end
pub bytes-filled : (w : ℕ) (b : List ℕ) → Bytes b → length b ≤ w → bytes_le w (le b) ≡ b ++ replicate (w - length b) 0
unfolding bytes_le le
bytes-filled w [] h l = rw (sub-zero w) (bytes-zero w)
bytes-filled zero (x ∷ b) h l = absurd (omega arith)
bytes-filled (suc w) (x ∷ b) h l =
    let ih = bytes-filled w b (λ i. h (suc i)) (omega arith) in
    let low : (x + 256 * le b) % 256 ≡ x = omega (arith, h 0) in
    let high : (x + 256 * le b) / 256 ≡ le b = omega (arith, h 0) in
    let fill : suc w - suc (length b) ≡ w - length b = omega arith in
    rw (low, high, ih, fill)

-- a number taken apart and put together again: all of its bytes, and the first four of eight
pub le_eight : (n : ℕ) → n < 2 ^ 64 → le (take 8 (bytes_le 8 n)) ≡ n
unfolding bytes_le
le_eight n h = le-all 8 n h

pub le_four : (n : ℕ) → le (take 4 (bytes_le 8 n)) ≡ n % 4294967296
unfolding bytes_le le
le_four n = omega arith

-- the number of a part of at most eight bytes, as eight bytes; and as that part, copied to the start of eight zeros
module _ (s : List ℕ) (at size : ℕ) (h : at + size ≤ length s) (m : size ≤ 8) where
  pub part_filled : (w n : ℕ) → Bytes s → size ≡ w → n ≡ le_at w s at → bytes_le 8 n ≡ take size (drop at s) ++ replicate (8 - size) 0
  part_filled w n b z e =
      let l : length (take size (drop at s)) ≡ size = length_part s at size h in
      let f = bytes-filled 8 (take size (drop at s)) (bytes-part s at size b) (omega arith) in
      rw (e, ← z) (f ∙ rw l)

  pub part_copied : (copied : List ℕ) → copied ≡ take (at + size - at) (drop at s) → le (take 8 (copied ++ drop size (replicate 8 0))) ≡ le_at size s at
  part_copied copied e =
      let p : copied ≡ take size (drop at s) = rw add-sub_cancel_left at e in
      let l : length (take size (drop at s)) ≡ size = length_part s at size h in
      rw (drop-replicate {X = ℕ} size 8 0, p, le-take-fill, take_all 8 (take size (drop at s)) (omega arith))
