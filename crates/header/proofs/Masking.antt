-- A header that is masked from the front: what is done so far, and behind it the header as it was.
use Rattle.std.proofs.Common.{◌≡◌, ℕ, ◌+◌, ◌≤◌, List, [], ◌∷◌, ◌++◌, length, take, drop, refl, sym, ap, ◌∙◌, append-nil, arith, length-drop}
use Rattle.std.specs.Prelude.{set, get_or, replicate}
use borrow.Rule.Slice.PartMut.{put_mid, mid_of, same_len_mid}
use lib.Seq.{take-add, drop-drop, append_snoc}
use Rattle.std.proofs.lemmas.List.{take_all, take_more_set, drop-set-lt, take-append-drop}
use Rattle.std.proofs.lemmas.Slice.{take-put_mid, drop-put_mid}
use Rattle.std.proofs.Math.ListN.{length-set, length-replicate}
use Rattle.reading.proofs.Parts.{length_part}
use Rattle.reading.proofs.Le.{le_at_one}
use Rattle.format.specs.Parts.{part}
use Rattle.format.specs.Header.{without_debug_bit}
use Rattle.format.specs.Integrity.{masked_header}

-- what a part of k bytes at `b` holds after it was filled
abbrev Filled : List ℕ → ℕ → ℕ → List ℕ → Type 0
Filled image b k ys = ys ≡ replicate (length (mid_of b k image)) 0

filled-is : (image ys : List ℕ) (b k : ℕ) → b + k ≤ length image → Filled image b k ys → ys ≡ replicate k 0
filled-is image ys b k l e = e ∙ ap (λ (n : ℕ). replicate n 0) (length_part image b k l)

room : (image ys : List ℕ) (b k : ℕ) → Filled image b k ys → length (put_mid b k image ys) ≡ length image
room image ys b k e = same_len_mid b k image ys (ap length e ∙ length-replicate (length (mid_of b k image)) 0)

module _ (f : List ℕ) (w : ℕ) {x : List ℕ} (l : length f ≡ 256) (ex : Filled (set f 7 w) 8 32 x) where
  pub room-second : 104 ≤ length (put_mid 8 32 (set f 7 w) x)
  room-second = omega (arith, room (set f 7 w) x 8 32 ex, length-set f 7 w)

  pub room-third : {y : List ℕ} → Filled (put_mid 8 32 (set f 7 w) x) 72 32 y → 192 ≤ length (put_mid 72 32 (put_mid 8 32 (set f 7 w) x) y)
  room-third {y} ey = omega (arith, room (put_mid 8 32 (set f 7 w) x) y 72 32 ey, room (set f 7 w) x 8 32 ex, length-set f 7 w)

record Masked (f image front : List ℕ) (a : ℕ) : Type 0 where
  done : take a image ≡ front
  left : drop a image ≡ drop a f
  long : length image ≡ length f

-- n bytes more stay, and the k behind them are zeroed
masked-more : (f image front : List ℕ) (a n k b e : ℕ) (ys : List ℕ) → b ≡ a + n → e ≡ b + k → e ≤ length f → Filled image b k ys → Masked f image front a
    → Masked f (put_mid b k image ys) (front ++ part a n f ++ replicate k 0) e
masked-more f image front a n k b e ys eb ee l fill m =
    let z : ys ≡ replicate k 0 = filled-is image ys b k (omega arith) fill in
    let n : length ys ≡ k = ap length z ∙ length-replicate k 0 in
    record {
      done = take-put_mid b k image ys e (omega arith) (omega arith) ∙ rw (z, kept);
      left = drop-put_mid b k image ys e (omega arith) (omega arith) n ∙ behind;
      long = room image ys b k fill ∙ m.long;
    }
  where
    kept : take b image ≡ front ++ part a n f
    kept = rw (eb, take-add a n image, m.done, m.left)

    behind : drop e image ≡ drop e f
    behind = let z : e ≡ a + (n + k) = omega arith in rw (z, ← drop-drop (n + k) a image, m.left, drop-drop (n + k) a f)

-- the image with the byte of the flags and three parts replaced
pub masked-by : (f : List ℕ) {w : ℕ} {x y z : List ℕ} → length f ≡ 256 → w ≡ without_debug_bit (get_or f 7 0)
    → Filled (set f 7 w) 8 32 x → Filled (put_mid 8 32 (set f 7 w) x) 72 32 y → Filled (put_mid 72 32 (put_mid 8 32 (set f 7 w) x) y) 136 56 z
    → put_mid 136 56 (put_mid 72 32 (put_mid 8 32 (set f 7 w) x) y) z ≡ masked_header f
unfolding masked_header
masked-by f {w = w} {x = x} {y = y} {z = z} l ew ex ey ez =
    let first : Masked f (set f 7 w) (part 0 7 f ++ w ∷ []) 8 = record { done = take_more_set f 7 w (omega arith); left = drop-set-lt 8 f 7 w (omega arith); long = length-set f 7 w } in
    let second = masked-more f _ _ 8 0 32 8 40 _ refl refl (omega arith) ex first in
    let third = masked-more f _ _ 40 32 32 72 104 _ refl refl (omega arith) ey second in
    let all = masked-more f _ _ 104 32 56 136 192 _ refl refl (omega arith) ez third in
    sym (take-append-drop 192 (put_mid 136 56 (put_mid 72 32 (put_mid 8 32 (set f 7 w) x) y) z))
    ∙ rw (all.done, all.left, append-nil (part 0 7 f ++ w ∷ []), append_snoc (part 0 7 f) w (replicate 32 0), ew, le_at_one f 7 (omega arith), take_all 64 (drop 192 f) (omega (arith, length-drop 192 f)))
