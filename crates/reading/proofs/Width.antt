-- Readers of one width. `Width k r`: each item takes k bytes. `Needs k r`: with fewer bytes it stops with 1. `Fixed k r`: both, and with k
-- bytes it gives an item. Each is closed under `do`, so the law of an entry is one line.
use mathlib.Core.Path.{◌≡◌, refl, sym, ap, subst, ◌∙◌}
use mathlib.Core.Bool.{Bool, true, false}
use mathlib.Core.List.{List, [], ◌∷◌}
use Prim.Native.Nat.{ℕ, zero, suc, ◌+◌, ◌*◌, ◌-◌, ◌≤◌, ◌<◌}
use native.Mathlib.Nat.{mul-suc, mul-zero, not-suc-le-zero, add-zero}
use native.Mathlib.Decide.{dec_le}
use native.Mathlib.Omega.{arith}
use lib.ListN.{length, take, drop, length-drop}
use lib.Seq.{drop-drop}
use borrow.Author.Tests.{le-ltb}
use Rattle.reading.specs.Fault.{Fault, short_input}
use Rattle.reading.specs.Numbers.{le}
use Rattle.reading.specs.Reader.{fault, got, Reader, ◌>>=◌, ◌>>◌, give, check, bytes, number, many}
use Rattle.reading.proofs.Reading.{never, both, bytes-short}

pub record Width {A : Type 0} (k : ℕ) (r : Reader A) : Type 0 where
  pub takes : (s : List ℕ) (a : A) (t : List ℕ) → r s ≡ got a t → (t ≡ drop k s) × (k ≤ length s)

abbrev pub Needs : {A : Type 0} → ℕ → Reader A → Type 0
Needs k r = (s : List ℕ) → length s < k → r s ≡ fault short_input

pub record Fixed {A : Type 0} (k : ℕ) (r : Reader A) : Type 0 where
  pub whole : (s : List ℕ) → k ≤ length s → (a : A) × (r s ≡ got a (drop k s))
  pub short : Needs k r

pub width-give : {A : Type 0} (a : A) → Width 0 (give a)
width-give a = record { takes = λ s b t e. (cc, omega arith) }

pub width-check : {A : Type 0} (ok : Bool) (f : Fault) (a : A) → Width 0 (check ok f >> give a)
width-check true f a = record { takes = λ s b t e. (cc, omega arith) }
width-check false f a = record { takes = λ s b t e. never e }

pub width-bind : {A B : Type 0} {r : Reader A} {go : A → Reader B} {j k : ℕ} → Width j r → ((a : A) → Width k (go a)) → Width (j + k) (r >>= go)
width-bind {A} {B} {r} {go} {j} {k} hr hg =
    record {
      takes = λ s b t e.
          let x = both (r s) e in
          let p = hr.takes s x.item x.middle x.first in
          let q = (hg x.item).takes x.middle b t x.second in
          let l = ap length p.0 ∙ length-drop j s in
          (q.0 ∙ ap (drop k) p.0 ∙ drop-drop k j s, omega (arith, q.1));
    }

pub fixed-width : {A : Type 0} {r : Reader A} {k : ℕ} → Fixed k r → Width k r
fixed-width {A} {r} {k} h = record { takes = λ s a t e. go s a t e (dec_le k (length s)) }
  where
    go : (s : List ℕ) (a : A) (t : List ℕ) → r s ≡ got a t → Dec (k ≤ length s) → (t ≡ drop k s) × (k ≤ length s)
    go s a t e (yes i) = let p = (h.whole s i).1 in (cc, i)
    go s a t e (no i) = never (sym (h.short s (omega arith)) ∙ e)

pub needs-none : {A : Type 0} (r : Reader A) → Needs 0 r
needs-none r s h = absurd (not-suc-le-zero h)

pub needs-bind : {A B : Type 0} {r : Reader A} {go : A → Reader B} {j k : ℕ} → Fixed j r → ((a : A) → Needs k (go a)) → Needs (j + k) (r >>= go)
needs-bind {A} {B} {r} {go} {j} {k} hr hg s h = here (dec_le j (length s))
  where
    here : Dec (j ≤ length s) → (r >>= go) s ≡ fault short_input
    here (yes i) = let l = length-drop j s in rw (hr.whole s i).1 (hg (hr.whole s i).0 (drop j s) (omega arith))
    here (no i) = rw (hr.short s (omega arith))

pub fixed-give : {A : Type 0} (a : A) → Fixed 0 (give a)
fixed-give a = record { whole = λ s h. (a, refl); short = needs-none (give a) }

pub fixed-bind : {A B : Type 0} {r : Reader A} {go : A → Reader B} {j k : ℕ} → Fixed j r → ((a : A) → Fixed k (go a)) → Fixed (j + k) (r >>= go)
fixed-bind {A} {B} {r} {go} {j} {k} hr hg =
    record {
      whole = λ s h.
          let l = length-drop j s in
          let p = hr.whole s (omega arith) in
          let q = (hg p.0).whole (drop j s) (omega arith) in
          (q.0, rw (← drop-drop k j s, p.1) q.1);
      short = needs-bind hr (λ a. (hg a).short);
    }

pub fixed-bytes : (n : ℕ) → Fixed n (bytes n)
unfolding bytes
fixed-bytes n = record { whole = λ s h. (take n s, rw (le-ltb (length s) n h)); short = bytes-short n }

pub fixed_number : (n : ℕ) → Fixed n (number n)
fixed_number n = rw (add-zero n) at (fixed-bind (fixed-bytes n) (λ b. fixed-give (le b)))

pub width-number : (n : ℕ) → Width n (number n)
width-number n = fixed-width (fixed_number n)

-- n items of width k take k times n bytes
pub width-many : {A : Type 0} {r : Reader A} {k : ℕ} (n : ℕ) → Width k r → Width (k * n) (many n r)
width-many {A} {r} {k} zero h = subst (λ (m : ℕ). Width m (many zero r)) (sym (mul-zero k)) (width-give [])
width-many {A} {r} {k} (suc n) h =
    let e : k + (k * n + 0) ≡ k * suc n = omega (arith, mul-suc k n) in
    subst (λ (m : ℕ). Width m (many (suc n) r)) e (width-bind h (λ a. width-bind (width-many n h) (λ xs. width-give (a ∷ xs))))

-- at a place of a section
pub needs-at : {A : Type 0} {r : Reader A} {k : ℕ} → Needs k r → (s : List ℕ) (at : ℕ) → length s - at < k → r (drop at s) ≡ fault short_input
needs-at h s at l = let d = length-drop at s in h (drop at s) (omega arith)

pub fixed-at : {A : Type 0} {r : Reader A} {k : ℕ} → Fixed k r → (s : List ℕ) (at : ℕ) → at + k ≤ length s → (a : A) × (r (drop at s) ≡ got a (drop (at + k) s))
fixed-at {A} {r} {k} h s at l =
    let d = length-drop at s in
    let p = h.whole (drop at s) (omega arith) in
    (p.0, p.1 ∙ ap (got p.0) (drop-drop k at s))

-- a table of items that are never refused needs no walk
fixed-cast : {A : Type 0} {r : Reader A} {j k : ℕ} → j ≡ k → Fixed j r → Fixed k r
fixed-cast {A} {r} e h = subst (λ n. Fixed n r) e h

pub fixed-many : {A : Type 0} {r : Reader A} {k : ℕ} (n : ℕ) → Fixed k r → Fixed (k * n) (many n r)
fixed-many {k} zero h = fixed-cast (sym (mul-zero k)) (fixed-give [])
fixed-many {k} (suc n) h =
    fixed-cast {j = k + (k * n + 0)} (omega (arith, mul-suc k n)) (fixed-bind h (λ a. fixed-bind (fixed-many n h) (λ xs. fixed-give (a ∷ xs))))
