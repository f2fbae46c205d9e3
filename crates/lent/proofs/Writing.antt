-- Texts written one behind the other, and what is known of the buffer.
use Prim.Native.Nat.{ℕ, ◌+◌, ◌<◌, ◌≤◌}
use mathlib.Core.Path.{◌≡◌, refl, sym, ◌∙◌, ap, subst}
use mathlib.Core.List.{List, [], ◌∷◌, ◌++◌, append-nil, append_assoc}
use native.Mathlib.Omega.{arith}
use native.Mathlib.Numerals.{add-one}
use lib.ListN.{length, get_or, take, drop, length-append, length-drop, take-append-drop}
use lib.Seq.{take_all, take_at, take-take, take-suc, length-take-le, drop_at, drop-drop}
use Rattle.std.specs.Int.{bytes_low_first}
use Rattle.reading.specs.Numbers.{bytes_le}
use Rattle.reading.proofs.Le.{bytes_le_is, bytes-length}
use Rattle.lent.specs.Output.{Wrote}

pub wrote_none : (l : List ℕ) (at : ℕ) → at ≤ length l → Wrote l at [] l at
wrote_none l at h =
    let e : at + 0 ≡ at = omega arith in record { fits = omega arith; next = omega arith; buffer = rw (append-nil, e) (sym (take-append-drop at l)) }

-- what is known of a buffer in which a text was written
module _ {a b t : List ℕ} {at r : ℕ} (w : Wrote a at t b r) where
  front_length : length (take at a ++ t) ≡ r
  front_length = let h = w.fits in let n = w.next in omega (arith, length-append (take at a) t, length-take-le at a (omega arith))

  -- up to r it holds what it held up to `at`, and then the text
  pub wrote-front : take r b ≡ take at a ++ t
  wrote-front = rw w.buffer (take_at (take at a ++ t) _ r front_length)

  -- from r on it is as it was
  pub wrote-rest : drop r b ≡ drop r a
  wrote-rest = rw (w.buffer, ← w.next) (drop_at (take at a ++ t) _ r front_length)

  pub wrote-length : length b ≡ length a
  wrote-length =
      let h = w.fits in
      let n = w.next in
      omega (arith, ap length w.buffer, length-append (take at a ++ t) (drop (at + length t) a), length-drop (at + length t) a, front_length)

  -- and so it is in front of `at`
  pub wrote-before : take at b ≡ take at a
  wrote-before =
      let h = w.fits in
      let n = w.next in
      sym (take-take at r b (omega arith)) ∙ rw wrote-front (take_at (take at a) t at (length-take-le at a (omega arith)))

pub wrote_as : {a b t u : List ℕ} {at r : ℕ} → t ≡ u → Wrote a at t b r → Wrote a at u b r
wrote_as {a} {b} {at = at} {r = r} e w = subst (λ (x : List ℕ). Wrote a at x b r) e w

-- a number, by the bytes that std's `to_le_bytes` gives
pub wrote_number : {a b l : List ℕ} {at r : ℕ} (k n : ℕ) → l ≡ bytes_low_first 0 k n → Wrote a at l b r → (r ≡ at + k) × Wrote a at (bytes_le k n) b r
wrote_number k n e w = let v = wrote_as (e ∙ bytes_le_is k n) w in (omega (arith, v.next, bytes-length k n), v)

pub wrote_then : {a b c s t : List ℕ} {at p q : ℕ} → Wrote a at s b p → Wrote b p t c q → Wrote a at (s ++ t) c q
wrote_then {a} {b} {c} {s} {t} {at} {p} {q} w v =
    let n = w.next in
    let m = v.next in
    let e : at + length (s ++ t) ≡ q = omega (arith, length-append s t) in
    let rest : drop (p + length t) b ≡ drop q a = sym (drop-drop (length t) p b) ∙ ap (drop (length t)) (wrote-rest w) ∙ drop-drop (length t) p a ∙ rw m in
    record {
      fits = let h = v.fits in omega (arith, wrote-length w);
      next = sym e;
      buffer = v.buffer ∙ rw (wrote-front w, rest, append_assoc (take at a) s t, e);
    }

-- A loop that writes the elements of `xs` one by one: before its turn i, the text of the first i stands there

pub record SoFar (text : List ℕ → List ℕ) (before : List ℕ) (at : ℕ) (xs after : List ℕ) (i next : ℕ) : Type 0 where
  pub room : length after ≡ length before
  pub most : i ≤ length xs
  pub wrote : Wrote before at (text (take i xs)) after next

module _ (text : List ℕ → List ℕ) (b : List ℕ) (at : ℕ) (xs : List ℕ) where
  pub so-far-start : text [] ≡ [] → at ≤ length b → SoFar text b at xs b 0 at
  so-far-start e h = record { room = refl; most = omega arith; wrote = rw e (wrote_none b at h) }

  pub so-far-next : {a c t : List ℕ} {i p q : ℕ} → SoFar text b at xs a i p → i < length xs
      → text (take i xs ++ (get_or xs i 0 ∷ [])) ≡ text (take i xs) ++ t → length c ≡ length a → Wrote a p t c q → SoFar text b at xs c (i + 1) q
  so-far-next {i = i} s h e l w = record { room = l ∙ s.room; most = omega arith; wrote = rw (add-one, take-suc xs i 0, e) (wrote_then s.wrote w) }

  pub so-far-end : {a : List ℕ} {i p : ℕ} → SoFar text b at xs a i p → length xs ≤ i → Wrote b at (text xs) a p
  so-far-end {i = i} s h = rw (take_all i xs h) at s.wrote
