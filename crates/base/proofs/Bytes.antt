-- The laws of a number's bytes, low byte first, and of the bytes of words.
use Prim.Native.Nat.{ℕ, zero, suc, ◌+◌, ◌*◌, ◌/◌, ◌%◌, ◌^◌, ◌≤◌, ◌<◌}
use native.Mathlib.Nat.{add_assoc, pow-succ'}
use native.Mathlib.Omega.{arith}
use mathlib.Core.Path.{◌≡◌, refl, sym, ap, ◌∙◌}
use mathlib.Core.Bool.{Bool, true, false, ◌&&◌, and_assoc}
use mathlib.Core.List.{List, [], ◌∷◌, ◌++◌}
use lib.Dec.{eqb}
use lib.ListN.{length, take, drop, get_or, length-drop}
use lib.Seq.{take-add, drop-drop, take_all, length-take-le}
use borrow.Author.Tests.{eq-eqb, ne_eqb, eqb-true, eqb-false}
use borrow.Rule.Slice.PartMut.{put_mid, same_len_mid}
use Rattle.std.proofs.lemmas.Slice.{take-put_mid}
use Rattle.reading.specs.Numbers.{le, le_at}
use Rattle.reading.proofs.Le.{Bytes, bytes-part}
use Rattle.reading.proofs.Parts.{length_part}
use Rattle.format.specs.Parts.{part, same}
use Rattle.reading.specs.Numbers.{bytes_le, word_bytes}

-- a number made of bytes, and taken apart again
bytes-of-le : (b : List ℕ) → Bytes b → bytes_le (length b) (le b) ≡ b
unfolding bytes_le le
bytes-of-le [] h = refl
bytes-of-le (x ∷ b) h =
    let ih = bytes-of-le b (λ i. h (suc i)) in
    let low : (x + 256 * le b) % 256 ≡ x = omega (arith, h 0) in
    let high : (x + 256 * le b) / 256 ≡ le b = omega (arith, h 0) in
    rw (low, high, ih)

-- the bytes of the number at a place are those that stand there
pub bytes-at : (w : ℕ) (s : List ℕ) (at : ℕ) → Bytes s → at + w ≤ length s → bytes_le w (le_at w s at) ≡ part at w s
bytes-at w s at h l = ap (λ (k : ℕ). bytes_le k (le_at w s at)) (sym (length_part s at w l)) ∙ bytes-of-le (part at w s) (bytes-part s at w h)

-- words one after the other, `m` bytes after a place and at it
abbrev Behind : List ℕ → ℕ → ℕ → List ℕ → Type 0
Behind s at m [] = Unit {0}
Behind s at m (w ∷ ws) = (w ≡ le_at 4 s (at + m)) × Behind s at (m + 4) ws

abbrev pub Stand : List ℕ → ℕ → List ℕ → Type 0
Stand s at [] = Unit {0}
Stand s at (w ∷ ws) = (w ≡ le_at 4 s at) × Behind s at 4 ws

module _ (s : List ℕ) (h : Bytes s) where
  one_more : (at w : ℕ) (ws : List ℕ) → at + 4 ≤ length s → w ≡ le_at 4 s at → word_bytes ws ≡ part (at + 4) (4 * length ws) s
      → word_bytes (w ∷ ws) ≡ part at (4 * suc (length ws)) s
  unfolding word_bytes
  one_more at w ws l e p =
      let n : 4 * suc (length ws) ≡ 4 + 4 * length ws = omega arith in
      rw (e, bytes-at 4 s at h l, p, n, take-add 4 (4 * length ws) (drop at s), drop-drop)

  behind : (at m : ℕ) (ws : List ℕ) → at + m + 4 * length ws ≤ length s → Behind s at m ws → word_bytes ws ≡ part (at + m) (4 * length ws) s
  unfolding word_bytes
  behind at m [] l p = refl
  behind at m (w ∷ ws) l p = one_more (at + m) w ws (omega arith) p.0 (rw add_assoc (behind at (m + 4) ws (omega arith) p.1))

  -- their bytes are the bytes there
  pub words-at : (at : ℕ) (ws : List ℕ) → at + 4 * length ws ≤ length s → Stand s at ws → word_bytes ws ≡ part at (4 * length ws) s
  unfolding word_bytes
  words-at at [] l p = refl
  words-at at (w ∷ ws) l p = one_more at w ws (omega arith) p.0 (behind at 4 ws (omega arith) p.1)

-- two numbers are equal exactly if their low bytes are, and what is above them
digits : (v u : ℕ) → eqb v u ≡ (eqb (v % 256) (u % 256) && eqb (v / 256) (u / 256))
digits v u = go (eqb (v % 256) (u % 256)) (eqb (v / 256) (u / 256)) refl refl
  where
    go : (a b : Bool) → eqb (v % 256) (u % 256) ≡ a → eqb (v / 256) (u / 256) ≡ b → eqb v u ≡ (a && b)
    go true true p q =
        let low = eqb-true (v % 256) (u % 256) p in
        let high = eqb-true (v / 256) (u / 256) q in
        eq-eqb v u (omega arith)
    go true false p q = ne_eqb v u (λ e. eqb-false _ _ q (ap (λ (n : ℕ). n / 256) e))
    go false b p q = ne_eqb v u (λ e. eqb-false _ _ p (ap (λ (n : ℕ). n % 256) e))

-- two numbers of w bytes are equal exactly if their bytes are the same
same_bytes : (w v u : ℕ) (s t : List ℕ) → v < 256 ^ w → u < 256 ^ w → same (bytes_le w v ++ s) (bytes_le w u ++ t) ≡ (eqb v u && same s t)
unfolding bytes_le
same_bytes zero v u s t p q = rw (eq-eqb v u (omega arith))
same_bytes (suc w) v u s t p q =
    let e : 256 ^ suc w ≡ 256 * 256 ^ w = rw pow-succ' in
    rw (same_bytes w (v / 256) (u / 256) s t (omega arith) (omega arith), digits v u, and_assoc)

-- words are the same exactly if their bytes are
pub same-words : (a b : List ℕ) → ((i : ℕ) → get_or a i 0 < 2 ^ 32) → ((i : ℕ) → get_or b i 0 < 2 ^ 32) → same (word_bytes a) (word_bytes b) ≡ same a b
unfolding word_bytes bytes_le
same-words [] [] p q = refl
same-words [] (w ∷ b) p q = refl
same-words (v ∷ a) [] p q = refl
same-words (v ∷ a) (w ∷ b) p q =
    same_bytes 4 v w (word_bytes a) (word_bytes b) (p 0) (q 0) ∙ rw (same-words a b (λ i. p (suc i)) (λ i. q (suc i)))

words-length : (ws : List ℕ) → length (word_bytes ws) ≡ 4 * length ws
unfolding word_bytes bytes_le
words-length [] = refl
words-length (w ∷ ws) = let ih = words-length ws in omega arith

-- the bytes of words written one by one into `b`: the first i are there
pub record Written (ws b : List ℕ) (i : ℕ) : Type 0 where
  pub most : i ≤ 4 * length ws
  pub room : length b ≡ 4 * length ws
  pub front : take i b ≡ take i (word_bytes ws)

pub written_none : (ws : List ℕ) {b : List ℕ} → length b ≡ 4 * length ws → Written ws b 0
written_none ws e = record { most = omega arith; room = e; front = refl }

-- the bytes of one word more
next_word : (ws : List ℕ) (i : ℕ) → i < length ws → take (4 * suc i) (word_bytes ws) ≡ take (4 * i) (word_bytes ws) ++ bytes_le 4 (get_or ws i 0)
unfolding word_bytes bytes_le
next_word [] i h = absurd (omega arith)
next_word (w ∷ ws) zero h = refl
next_word (w ∷ ws) (suc i) h =
    let a : 4 * suc (suc i) ≡ suc (suc (suc (suc (4 * suc i)))) = omega arith in
    let b : 4 * suc i ≡ suc (suc (suc (suc (4 * i)))) = omega arith in
    ap (λ (n : ℕ). take n (word_bytes (w ∷ ws))) a
    ∙ ap (λ (l : List ℕ). bytes_le 4 w ++ l) (next_word ws i (omega arith))
    ∙ sym (ap (λ (n : ℕ). take n (word_bytes (w ∷ ws)) ++ bytes_le 4 (get_or ws i 0)) b)

pub written_word : (ws b : List ℕ) (i k : ℕ) {x : List ℕ} → i < length ws → k ≡ 4 → x ≡ bytes_le 4 (get_or ws i 0) → Written ws b (4 * i)
    → Written ws (put_mid (4 * i) k b x) (4 * (i + 1))
unfolding bytes_le
written_word ws b i k {x} h e p w =
    let r = w.room in
    let l : length x ≡ 4 = ap length p in
    let m : length (take k (drop (4 * i) b)) ≡ k = length-take-le k (drop (4 * i) b) (omega (arith, length-drop (4 * i) b)) in
    let n : 4 * (i + 1) ≡ 4 * suc i = omega arith in
    record {
      most = omega arith;
      room = same_len_mid (4 * i) k b x (l ∙ sym (m ∙ e)) ∙ r;
      front = take-put_mid (4 * i) k b x (4 * (i + 1)) (omega arith) (omega arith)
          ∙ rw (w.front, p) (sym (ap (λ (m : ℕ). take m (word_bytes ws)) n ∙ next_word ws i h));
    }

-- std's bytes of a word
pub word_in_bytes : (w : ℕ) → w % 256 ∷ w / 256 % 256 ∷ w / 65536 % 256 ∷ w / 16777216 % 256 ∷ [] ≡ bytes_le 4 w
unfolding bytes_le
word_in_bytes w =
    let two : w / 256 / 256 ≡ w / 65536 = omega arith in
    let three : w / 256 / 256 / 256 ≡ w / 16777216 = omega arith in
    rw (three, two)

pub written_all : (ws b : List ℕ) (i : ℕ) → 4 * length ws ≤ i → Written ws b i → b ≡ word_bytes ws
written_all ws b i h w =
    sym (take_all i b (omega (arith, w.room))) ∙ w.front ∙ take_all i (word_bytes ws) (omega (arith, words-length ws))
