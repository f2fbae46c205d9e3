-- The entry at an index of a table, over any reader of entries: by the entries that are passed over, and the one that is read behind them.
use mathlib.Core.Path.{◌≡◌, refl, sym}
use mathlib.Core.Bool.{Bool, true, false, cond}
use mathlib.Core.List.{List, map}
use Prim.Native.Nat.{ℕ, ◌≤◌, ◌<◌}
use native.Mathlib.Decide.{dec_le}
use native.Mathlib.Omega.{arith}
use lib.Dec.{ltb}
use lib.ListN.{drop}
use borrow.Author.Tests.{lt-ltb, le-ltb}
use Rattle.reading.specs.Fault.{Fault}
use Rattle.reading.specs.Reader.{Read, fault, got, Reader, next, give, many}
use Rattle.reading.specs.Answer.{refused, found, ◌>>=◌ as ◌then◌, item_of, indexed}
use Rattle.reading.specs.Places.{Step, stops, item, Reads, on_to, Goes}
use Rattle.reading.proofs.Passing.{reads-told}
use Rattle.reading.proofs.Made.{made, many-made}
use Rattle.reading.proofs.Tables.{answer_by, at-walked, index-out, never-stops}
use Rattle.format.specs.Faults.{no_entry}
use Rattle.base.specs.Picked.{picked}

module _ {A : Type 0} (r : Reader A) (s : List ℕ) where
  module _ (at n k : ℕ) where
    pub picked_out : n ≤ k → refused no_entry ≡ picked r s at n k
    unfolding picked
    picked_out h = rw (le-ltb k n h)

    pub picked_stop : (f : Fault) → k < n → many k r (drop at s) ≡ fault f → refused f ≡ picked r s at n k
    unfolding picked
    picked_stop f h e = rw (lt-ltb k n h, e)

    pub picked_read : (p : ℕ) {v w : Step A} → k < n → Goes (many k r) s at (on_to p) → v ≡ w → Reads r s p v → answer_by w ≡ picked r s at n k
    unfolding picked
    picked_read p {v} {w} h g e q = rw (lt-ltb k n h, g.1.1) (go w (reads-told r s p e q))
      where
        go : (w : Step A) → Reads r s p w → answer_by w ≡ item_of (r (drop p s))
        go (stops f) q = rw q
        go (item a m) q = rw q.1

-- for a table that reads, a lookup is indexing into its entries
pub picked_is : {A : Type 0} (r : Reader A) (s : List ℕ) (at n k : ℕ) (xs : List A) (rest : List ℕ) → many n r (drop at s) ≡ got xs rest → picked r s at n k ≡ indexed no_entry xs k
unfolding picked
picked_is {A} r s at n k xs rest e = go (dec_le n k)
  where
    here : k < n → (y : Read (List A)) → many k r (drop at s) ≡ y → item_of (next y (λ before. r)) ≡ indexed no_entry xs k
    here h (fault f) d = absurd (never-stops r k n (drop at s) xs rest f (omega arith) e d)
    here h (got bs y) d = let w = at-walked r k n (drop at s) y xs bs rest h e d in rw w.reads (sym (w.picked no_entry))

    go : Dec (n ≤ k) → picked r s at n k ≡ indexed no_entry xs k
    go (yes h) = rw (le-ltb k n h) (sym (index-out r k n (drop at s) xs rest no_entry h e))
    go (no h) = let l : k < n = omega arith in rw (lt-ltb k n l) (here l (many k r (drop at s)) refl)

-- items made into others: each answer is made of the other
pub picked_made : {A B : Type 0} (m : A → B) (r : Reader A) (s : List ℕ) (at n k : ℕ) → picked (made m r) s at n k ≡ (picked r s at n k then λ a. found (m a))
unfolding picked
picked_made {A} m r s at n k = rw (many-made m r k (drop at s)) (go (ltb k n) (many k r (drop at s)))
  where
    last : (y : Read A) → item_of (next y (λ a. give (m a))) ≡ (item_of y then λ a. found (m a))
    last (fault f) = refl
    last (got a t) = refl

    go : (z : Bool) (y : Read (List A))
        → cond z (item_of (next (next y (λ xs. give (map m xs))) (λ before. made m r))) (refused no_entry) ≡ (cond z (item_of (next y (λ before. r))) (refused no_entry) then λ a. found (m a))
    go false y = refl
    go true (fault f) = refl
    go true (got xs x) = last (r x)
