-- Answers by whether the text fits, and texts in two parts.
use Prim.Native.Nat.{ℕ, ◌+◌, ◌≤◌, ◌<◌}
use mathlib.Core.Path.{◌≡◌, refl, sym, ap, subst, ◌∙◌}
use mathlib.Core.Bool.{Bool, true, false}
use mathlib.Core.List.{List, ◌++◌}
use native.Mathlib.Omega.{arith}
use Rattle.std.specs.Prelude.{Option, Some, None}
use borrow.Author.Tests.{leb-true, leb-false, le-leb, lt-leb}
use lib.Dec.{leb}
use lib.ListN.{length, take, length-append}
use lib.Seq.{take-take}
use Rattle.lent.specs.Output.{Unchanged, put_in, put_answer, put_or, Wrote, Puts, PutsRestFree}
use Rattle.lent.proofs.Writing.{wrote-length, wrote-before, wrote_then}

-- The answer and the buffer, by whether the text fits

module _ (b : List ℕ) (at : ℕ) (t : List ℕ) where
  module _ (h : at + length t ≤ length b) where
    pub answer_at : put_answer b at t ≡ Some (at + length t)
    unfolding put_answer
    answer_at = rw (le-leb (at + length t) (length b) h)

    pub buffer-put : put_or b at t ≡ put_in b at t
    unfolding put_or
    buffer-put = rw (le-leb (at + length t) (length b) h)

  module _ (h : length b < at + length t) where
    pub answer-none : put_answer b at t ≡ None
    unfolding put_answer
    answer-none = rw (lt-leb (at + length t) (length b) h)

    pub buffer-left : put_or b at t ≡ b
    unfolding put_or
    buffer-left = rw (lt-leb (at + length t) (length b) h)

    -- a text that does not fit
    pub puts_none : Puts b at t b None
    puts_none = record { answer = sym answer-none; buffer = sym buffer-left }

    pub free-none : {a : List ℕ} → take at a ≡ take at b → PutsRestFree b at t a None
    free-none e = record { answer = sym answer-none; front = e; text = λ fits. absurd (omega arith) }

  not-fits : None ≡ put_answer b at t → length b < at + length t
  not-fits e = go (leb (at + length t) (length b)) refl
    where
      go : (z : Bool) → leb (at + length t) (length b) ≡ z → length b < at + length t
      go true q = cc (answer_at (leb-true (at + length t) (length b) q))
      go false q = leb-false (at + length t) (length b) q

  do-fit : {n : ℕ} → Some n ≡ put_answer b at t → (at + length t ≤ length b) × (n ≡ at + length t)
  do-fit {n} e = go (leb (at + length t) (length b)) refl
    where
      go : (z : Bool) → leb (at + length t) (length b) ≡ z → (at + length t ≤ length b) × (n ≡ at + length t)
      go true q = let h = leb-true (at + length t) (length b) q in (h, let z : n ≡ at + length t = cc (answer_at h) in z)
      go false q = cc (answer-none (leb-false (at + length t) (length b) q))

-- a text that was written
module _ {b a t : List ℕ} {at n : ℕ} (w : Wrote b at t a n) where
  pub puts-wrote : Puts b at t a (Some n)
  puts-wrote = record { answer = ap Some w.next ∙ sym (answer_at b at t w.fits); buffer = w.buffer ∙ sym (buffer-put b at t w.fits) }

  pub free-wrote : PutsRestFree b at t a (Some n)
  free-wrote = record { answer = puts-wrote.answer; front = wrote-before w; text = λ fits. w.buffer }

-- By the answer

module _ {b a t : List ℕ} {at : ℕ} where
  pub puts-full : Puts b at t a None → (length b < at + length t) × Unchanged b a
  puts-full p = let h = not-fits b at t p.answer in (h, p.buffer ∙ buffer-left b at t h)

  pub puts-at : {n : ℕ} → Puts b at t a (Some n) → Wrote b at t a n
  puts-at p = let k = do-fit b at t p.answer in record { fits = k.0; next = k.1; buffer = p.buffer ∙ buffer-put b at t k.0 }

  pub free-full : PutsRestFree b at t a None → length b < at + length t
  free-full p = not-fits b at t p.answer

  pub free-at : {n : ℕ} → PutsRestFree b at t a (Some n) → Wrote b at t a n
  free-at p = let k = do-fit b at t p.answer in record { fits = k.0; next = k.1; buffer = p.text k.0 }

  -- where the buffer is as it was, it is so in front of `at`
  pub puts-free : {r : Option ℕ} → Puts b at t a r → PutsRestFree b at t a r
  puts-free {r = None} p = let k = puts-full p in free-none b at t k.0 (ap (take at) k.1)
  puts-free {r = Some n} p = free-wrote (puts-at p)

pub free-as : {b a t u : List ℕ} {at : ℕ} {r : Option ℕ} → t ≡ u → PutsRestFree b at t a r → PutsRestFree b at u a r
free-as {b} {a} {at = at} {r = r} e p = subst (λ (x : List ℕ). PutsRestFree b at x a r) e p

-- Two parts

-- no room for the first: none for both
pub free-stop : {b a s : List ℕ} {at : ℕ} (t : List ℕ) → PutsRestFree b at s a None → PutsRestFree b at (s ++ t) a None
free-stop {b} {a} {s} {at} t p = free-none b at (s ++ t) (let h = free-full p in omega (arith, length-append s t)) p.front

-- the first is written, and the second's answer is the answer
pub wrote-free : {b a c s t : List ℕ} {at n : ℕ} {r : Option ℕ} → Wrote b at s a n → PutsRestFree a n t c r → PutsRestFree b at (s ++ t) c r
wrote-free {b} {a} {c} {s} {t} {at} {n} {r = None} w p =
    let h = free-full p in
    let m = w.next in
    free-none b at (s ++ t) (omega (arith, length-append s t, wrote-length w))
    (sym (take-take at n c (omega arith)) ∙ ap (take at) p.front ∙ take-take at n a (omega arith) ∙ wrote-before w)
wrote-free {r = Some m} w p = free-wrote (wrote_then w (free-at p))
