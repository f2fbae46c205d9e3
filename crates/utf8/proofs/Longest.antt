-- `valid_up_to` is the length of the longest start of a text that consists of whole well-formed sequences.
-- Assumes nothing.
use mathlib.Core.Bool.{Bool, true, false, ◌&&◌, cond}
use mathlib.Core.List.{List, [], ◌∷◌, ◌++◌, append_assoc, Memᴰ}
use mathlib.Core.Path.{◌≡◌, refl, sym, ◌∙◌}
use Prim.Native.Nat.{ℕ, zero, suc, ◌+◌, ◌≤◌}
use native.Mathlib.Nat.{not-suc-le-zero}
use native.Mathlib.Omega.{arith}
use lib.Dec.{T, leb→le}
use lib.ListN.{length, take, drop, take-append-drop, length-append}
use lib.Seq.{take-length, take-add, drop-append_seam, length-take-le}
use borrow.Author.Tests.{eqb-true, eq-eqb}
use Rattle.utf8.specs.Utf8.{Range, within, starts, first_of, well_formed, sequence_at, onward, valid_after, valid_up_to, utf8}
use Rattle.utf8.specs.Laws.{Whole, none, more, LongestValidStart, Laws}
use Rattle.utf8.proofs.Table.{left, right, lead}

both : (a b : Bool) → T a → T b → T (a && b)
both true b t u = u
both false b t u = absurd t

-- the sequence of `n` bytes that a text starts with, and its row
pub record Front (rows : List (List Range)) (s : List ℕ) (n : ℕ) : Type 0 where
  row : List Range
  in_table : Memᴰ row rows
  bytes : T (starts row (take n s))
  size : n ≡ length row
  pub fits : n ≤ length s

front : (row : List Range) (s : List ℕ) → T (starts row s) → T (starts row (take (length row) s)) × (length row ≤ length s)
front [] s t = (tt, omega arith)
front (r ∷ row) [] t = absurd t
front (r ∷ row) (b ∷ s) t =
    let h = front row s (search right) in
    (both (within r b) (starts row (take (length row) s)) (search left) h.0, omega (arith, h.1))

first-front : (rows : List (List Range)) (s : List ℕ) (k : ℕ) → first_of rows s ≡ suc k → Front rows s (suc k)
first-front [] s k e = absurd (omega arith)
first-front (row ∷ rows) s k e = by_cases (first-front rows s k) (starts row s) (front row s) e
  where
    by_cases : (first_of rows s ≡ suc k → Front rows s (suc k)) → (t : Bool) → (T t → T (starts row (take (length row) s)) × (length row ≤ length s))
        → cond t (length row) (first_of rows s) ≡ suc k → Front (row ∷ rows) s (suc k)
    by_cases rec true h e =
        record { row = row; in_table = Memᴰ.head refl; bytes = rw (← e) (h tt).0; size = sym e; fits = omega (arith, (h tt).1) }
    by_cases rec false h e = let f = rec e in record { row = f.row; in_table = Memᴰ.tail f.in_table; bytes = f.bytes; size = f.size; fits = f.fits }

pub sequence-front : (s : List ℕ) (k : ℕ) → sequence_at s ≡ suc k → Front well_formed s (suc k)
unfolding sequence_at
sequence-front s k e = first-front well_formed s k e

-- the valid length of a text that starts with no sequence, and of one that starts with a sequence of `suc k` bytes
pub valid-none : (s : List ℕ) → sequence_at s ≡ 0 → valid_up_to s ≡ 0
unfolding valid_after valid_up_to
valid-none [] e = refl
valid-none (b ∷ s) e = rw e

valid-after : (k : ℕ) (s : List ℕ) → k ≤ length s → valid_after k s ≡ k + valid_up_to (drop k s)
unfolding valid_after valid_up_to
valid-after zero s h = omega arith
valid-after (suc k) [] h = absurd (not-suc-le-zero h)
valid-after (suc k) (b ∷ s) h = let g = valid-after k s (omega arith) in omega arith

pub valid-more : (s : List ℕ) (k : ℕ) → sequence_at s ≡ suc k → valid_up_to s ≡ suc k + valid_up_to (drop (suc k) s)
unfolding valid_after valid_up_to
valid-more [] k e = absurd (not-suc-le-zero (sequence-front [] k e).fits)
valid-more (b ∷ s) k e =
    let f = (sequence-front (b ∷ s) k e).fits in
    let g = valid-after k s (omega arith) in
    rw e (omega arith)

-- the start of that length is whole
whole : (k : ℕ) (s : List ℕ) → Whole (take (valid_up_to (drop k s)) (drop k s))
unfolding valid_after valid_up_to
whole zero [] = none
whole (suc k) [] = none
whole (suc k) (b ∷ s) = whole k s
whole zero (b ∷ s) = by_cases (λ k. whole k s) (sequence_at (b ∷ s)) refl
  where
    by_cases : ((k : ℕ) → Whole (take (valid_up_to (drop k s)) (drop k s))) → (n : ℕ) → sequence_at (b ∷ s) ≡ n → Whole (take (valid_up_to (b ∷ s)) (b ∷ s))
    by_cases rec zero e = rw (valid-none (b ∷ s) e) none
    by_cases rec (suc k) e =
        let f = sequence-front (b ∷ s) k e in
        rw (valid-more (b ∷ s) k e, take-add (suc k) (valid_up_to (drop k s)) (b ∷ s))
        (more (take (suc k) (b ∷ s)) (take (valid_up_to (drop k s)) (drop k s)) f.row f.in_table f.bytes (length-take-le (suc k) (b ∷ s) f.fits ∙ f.size) (rec k))

-- and no longer start is: a sequence in front of a text is the one that is found there
before : (row : List Range) (p s : List ℕ) → T (starts row p) → T (starts row (p ++ s))
before [] p s t = tt
before (r ∷ row) [] s t = absurd t
before (r ∷ row) (b ∷ p) s t = both (within r b) (starts row (p ++ s)) (search left) (before row p s (search right))

valid-past : (r : Range) (row : List Range) (b : ℕ) (p s : List ℕ) → Memᴰ (r ∷ row) well_formed → T (starts (r ∷ row) (b ∷ p)) → suc (length p) ≡ suc (length row)
    → valid_up_to (b ∷ (p ++ s)) ≡ suc (length p) + valid_up_to s
valid-past r row b p s m t l =
    let e = lead (r ∷ row) b (p ++ s) m (leb→le r.low b (search left), leb→le b r.high (search (left, right))) in
    rw (drop-append_seam p s) at (valid-more (b ∷ (p ++ s)) (length p) (found (starts row (p ++ s)) (before row p s (search right)) e))
  where
    found : (a : Bool) → T a → sequence_at (b ∷ (p ++ s)) ≡ cond a (suc (length row)) 0 → sequence_at (b ∷ (p ++ s)) ≡ suc (length p)
    found true u e = e ∙ sym l
    found false u e = absurd u

longest : {x : List ℕ} → Whole x → (y : List ℕ) → length x ≤ valid_up_to (x ++ y)
longest none y = omega arith
longest (more [] x row m t l w) y = longest w y
longest (more (b ∷ p) x [] m t l w) y = absurd (omega arith)
longest (more (b ∷ p) x (r ∷ row) m t l w) y =
    let h = longest w y in
    let k = length-append (b ∷ p) x in
    rw (append_assoc p x y) (omega (arith, valid-past r row b p (x ++ y) m t l))

valid-within : (k : ℕ) (s : List ℕ) → valid_after k s ≤ length s
unfolding valid_after
valid-within k [] = omega arith
valid-within (suc k) (b ∷ s) = let h = valid-within k s in omega arith
valid-within zero (b ∷ s) = by_cases (λ k. valid-within k s) (sequence_at (b ∷ s))
  where
    by_cases : ((k : ℕ) → valid_after k s ≤ length s) → (n : ℕ) → onward n (λ k. valid_after k s) ≤ suc (length s)
    by_cases rec zero = omega arith
    by_cases rec (suc k) = let h = rec k in omega arith

valid-start : (s : List ℕ) → LongestValidStart s
unfolding valid_up_to
valid-start s =
    record {
      within = valid-within 0 s;
      whole = whole 0 s;
      longest = λ n h w.
          let k : length (take n s) ≤ valid_up_to s = rw (take-append-drop n s) at (longest w (drop n s)) in
          let l = length-take-le n s h in
          omega arith;
    }

pub laws : Laws
unfolding utf8
laws =
    record {
      longest-valid-start = valid-start;
      valid-is-whole = λ s e. rw (eqb-true (valid_up_to s) (length s) e, take-length s) at (valid-start s).whole;
      whole-is-valid = λ s w.
          let g = valid-start s in
          let h : length s ≤ valid_up_to s = g.longest (length s) (omega arith) (rw (take-length s) w) in
          eq-eqb (valid_up_to s) (length s) (omega arith);
    }
