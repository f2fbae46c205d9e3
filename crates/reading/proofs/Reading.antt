-- The laws of readers: what a `do` block that reads has read, and numbers at a place of a section.
use mathlib.Core.Path.{◌≡◌, refl, sym, ap, subst, ◌∙◌}
use mathlib.Core.List.{List, ◌++◌}
use Prim.Native.Nat.{ℕ, ◌+◌, ◌^◌, ◌≤◌, ◌<◌}
use native.Mathlib.Nat.{le_of_eq}
use native.Mathlib.Omega.{arith}
use native.Mathlib.Decide.{dec_le}
use lib.ListN.{length, take, drop, length-drop, length-append}
use lib.Seq.{drop-drop, take_at, drop_at, length-take-le}
use borrow.Author.Tests.{lt-ltb, le-ltb}
use Rattle.reading.specs.Fault.{Fault, short_input}
use Rattle.reading.specs.Numbers.{le_at}
use Rattle.reading.specs.Reader.{Read, fault, got, Reader, next, bytes, number}
use Rattle.reading.proofs.Le.{Bytes, bytes-part, le-fits}

-- a fault is not an item
pub never : {A : Type 0} {B : Type 0} {f : Fault} {a : A} {t : List ℕ} → fault f ≡ got a t → B
never e = absurd (let z : ◌≡◌ {A = ℕ} 0 1 = cc in omega arith)

-- what a `>>=` that gives an item has read first
pub record Both {A B : Type 0} (x : Read A) (go : A → Reader B) (b : B) (t : List ℕ) : Type 0 where
  pub item : A
  pub middle : List ℕ
  pub first : x ≡ got item middle
  pub second : go item middle ≡ got b t

pub both : {A B : Type 0} (x : Read A) {go : A → Reader B} {b : B} {t : List ℕ} → next x go ≡ got b t → Both x go b t
both (fault f) e = never e
both (got a m) e = record { item = a; middle = m; first = refl; second = e }

-- one reader behind another, and a third behind both
pub then-then : {A B C : Type 0} (x : Read A) (g : A → Reader B) (h : B → Reader C) → next (next x g) h ≡ next x (λ a y. next (g a y) h)
then-then (fault f) g h = refl
then-then (got a y) g h = refl

-- bytes and numbers at the place `at`, up to the place `to`
pub bytes-at : (n : ℕ) (s : List ℕ) (at to : ℕ) → at + n ≡ to → to ≤ length s → bytes n (drop at s) ≡ got (take n (drop at s)) (drop to s)
unfolding bytes
bytes-at n s at to e h = let l = length-drop at s in rw (le-ltb (length (drop at s)) n (omega arith), ← e, drop-drop n at s)

pub bytes-short : (n : ℕ) (s : List ℕ) → length s < n → bytes n s ≡ fault short_input
unfolding bytes
bytes-short n s h = rw (lt-ltb (length s) n h)

-- as many bytes as are asked for
pub bytes-all : (n : ℕ) (b s : List ℕ) → length b ≡ n → bytes n (b ++ s) ≡ got b s
unfolding bytes
bytes-all n b s h = rw (le-ltb (length (b ++ s)) n (omega (arith, length-append b s)), take_at b s n h, drop_at b s n h)

pub bytes-length : (n : ℕ) (s b t : List ℕ) → bytes n s ≡ got b t → length b ≡ n
bytes-length n s b t e = go (dec_le n (length s))
  where
    go : Dec (n ≤ length s) → length b ≡ n
    go (yes i) =
        let x = bytes-at n s 0 n (omega arith) i in
        let y : take n s ≡ b = cc in
        sym (ap length y) ∙ length-take-le n s i
    go (no i) = never (sym (bytes-short n s (omega arith)) ∙ e)

pub number_at : (n : ℕ) (s : List ℕ) (at to : ℕ) → at + n ≡ to → to ≤ length s → number n (drop at s) ≡ got (le_at n s at) (drop to s)
number_at n s at to e h = rw (bytes-at n s at to e h)

pub number_short : (n : ℕ) (s : List ℕ) → length s < n → number n s ≡ fault short_input
number_short n s h = rw (bytes-short n s h)

-- a number of `n` bytes is below 256 to that power
pub number_fits : (n : ℕ) (s : List ℕ) (v : ℕ) (t : List ℕ) → Bytes s → number n s ≡ got v t → v < 256 ^ n
number_fits n s v t b e = go (dec_le n (length s))
  where
    go : Dec (n ≤ length s) → v < 256 ^ n
    go (yes i) =
        let x = number_at n s 0 n (omega arith) i in
        let y : le_at n s 0 ≡ v = cc in
        subst (λ (w : ℕ). w < 256 ^ n) y (le-fits n (take n s) (bytes-part s 0 n b) (le_of_eq (length-take-le n s i)))
    go (no i) = never (sym (number_short n s (omega arith)) ∙ e)
