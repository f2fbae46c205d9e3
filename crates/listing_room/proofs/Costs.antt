-- What a reader's item costs: of the bytes of its section each pays for k bytes of text. `Costs c k len r`: with c bytes paid before, the bytes
-- that `r` takes pay for the `len a` bytes of text of its item. Closed under `do`, so the law of an entry is one line for each field.
use Prim.Native.Nat.{ℕ, zero, suc, ◌+◌, ◌*◌, ◌<◌, ◌≤◌, ◌^◌}
use mathlib.Core.Path.{◌≡◌, refl, ap}
use mathlib.Core.Bool.{Bool, true, false, cond}
use mathlib.Core.List.{List, [], ◌∷◌}
use native.Mathlib.Nat.{mul-le-mul_left}
use native.Mathlib.Omega.{arith}
use lib.Dec.{ltb}
use lib.ListN.{length, length-drop, length-append}
use Rattle.reading.specs.Fault.{Fault}
use Rattle.reading.specs.Reader.{got, Reader, ◌>>=◌, ◌>>◌, give, check, bytes, number, many, counted, counted_or_none}
use Rattle.reading.proofs.Le.{Bytes, bytes_drop}
use Rattle.reading.proofs.Reading.{never, both, bytes-length, number_fits}
use Rattle.reading.proofs.Width.{Width, fixed-width, fixed-bytes, width-number}
use Rattle.reading.proofs.Local.{Local}
use Rattle.reading.proofs.Left.{left-all, left-taken}
use Rattle.listing.specs.Listing.{each, indexed_from}

pub record Costs {A : Type 0} (c k : ℕ) (len : A → ℕ) (r : Reader A) : Type 0 where
  pub pays : (s : List ℕ) (a : A) (t : List ℕ) → Bytes s → r s ≡ got a t → Bytes t × (len a + k * length t ≤ k * length s + c)

-- an item that was read from bytes
pub record Came {A : Type 0} (r : Reader A) (a : A) : Type 0 where
  pub from : List ℕ
  pub rest : List ℕ
  pub bytes : Bytes from
  pub reads : r from ≡ got a rest

-- lines without an index are lines whose index is not looked at
each-is : {A : Type 0} (line_of : A → List ℕ) (i : ℕ) (xs : List A) → indexed_from i (λ j. line_of) xs ≡ each line_of xs
unfolding indexed_from each
each-is line_of i [] = refl
each-is line_of i (a ∷ xs) = rw (each-is line_of (suc i) xs)

module _ {k : ℕ} where
  -- paid more before, or for less
  pub costs-less : {A : Type 0} {r : Reader A} {m len : A → ℕ} {c d : ℕ} → ((a : A) → len a + c ≤ m a + d) → Costs c k m r → Costs d k len r
  costs-less l h = record { pays = λ s a t b e. let p = h.pays s a t b e in (p.0, omega (arith, p.1, l a)) }

  pub costs-give : {A : Type 0} {len : A → ℕ} {c : ℕ} {a : A} → len a ≤ c → Costs c k len (give a)
  costs-give {A} {len} {c} {a} l =
      record {
        pays = λ s b t h e.
            let x : a ≡ b = cc in
            let y : s ≡ t = cc in
            (rw y at h, omega (arith, ap len x, ap (λ u. k * length u) y));
      }

  pub costs-then : {A B : Type 0} {r : Reader A} {go : A → Reader B} {m : A → ℕ} {len : B → ℕ} {c : ℕ}
      → Costs 0 k m r → ((a : A) → Came r a → Costs (c + m a) k len (go a)) → Costs c k len (r >>= go)
  costs-then {A} {B} {r} hr hg =
      record {
        pays = λ s b t h e.
            let x = both (r s) e in
            let p = hr.pays s x.item x.middle h x.first in
            let q = (hg x.item (record { from = s; rest = x.middle; bytes = h; reads = x.first })).pays x.middle b t p.0 x.second in
            (q.0, omega (arith, p.1, q.1));
      }

  -- an item of w bytes
  costs-width : {A : Type 0} {r : Reader A} {w : ℕ} → Width w r → Costs 0 k (λ a. k * w) r
  costs-width {A} {r} {w} h =
      record {
        pays = λ s a t b e.
            let p = h.takes s a t e in
            let l : length s ≡ w + length t = omega (arith, p.1, ap length p.0, length-drop w s) in
            (rw p.0 (bytes_drop s w b), omega (arith, ap (λ (n : ℕ). k * n) l));
      }

  pub number-then : {B : Type 0} (n : ℕ) {go : ℕ → Reader B} {len : B → ℕ} {c : ℕ} → ((v : ℕ) → v < 256 ^ n → Costs (c + k * n) k len (go v)) → Costs c k len (number n >>= go)
  number-then n h = costs-then (costs-width (width-number n)) (λ v x. h v (number_fits n x.from v x.rest x.bytes x.reads))

  pub bytes-then : {B : Type 0} (n : ℕ) {go : List ℕ → Reader B} {len : B → ℕ} {c : ℕ} → ((b : List ℕ) → length b ≡ n → Costs (c + k * n) k len (go b)) → Costs c k len (bytes n >>= go)
  bytes-then n h = costs-then (costs-width (fixed-width (fixed-bytes n))) (λ b x. h b (bytes-length n x.from b x.rest x.reads))

  pub check-then : {B : Type 0} (ok : Bool) (f : Fault) {q : Reader B} {len : B → ℕ} {c : ℕ} → (ok ≡ true → Costs c k len q) → Costs c k len (check ok f >> q)
  check-then true f h = record { pays = (h refl).pays }
  check-then false f h = record { pays = λ s b t x e. never e }

  -- at the end of a `do` block: an item of what is left, and one that has all that is left
  pub costs-left : {A : Type 0} {len : A → ℕ} {c : ℕ} {made : List ℕ → A} → ((s : List ℕ) → len (made s) ≤ c) → Costs c k len (λ s. got (made s) s)
  costs-left {len = len} l = record { pays = λ s a t b e. (costs-give {len = len} (l s)).pays s a t b e }

  pub costs-last : {A : Type 0} {len : A → ℕ} {c : ℕ} {made : List ℕ → A} → ((s : List ℕ) → len (made s) ≤ c) → Costs c k len (λ s. got (made s) [])
  costs-last {len = len} l =
      record {
        pays = λ s a t b e.
            let p = (costs-give {len = len} (l s)).pays [] a t (λ i. omega arith) e in
            (p.0, omega (arith, p.1));
      }

  -- an item without a text
  pub costs-local : {A : Type 0} {r : Reader A} → Local r → Costs 0 k (λ a. 0) r
  costs-local h =
      record {
        pays = λ s a t b e.
            let x = left-taken s s a t (left-all s) (h.taken s a t e) in
            let l : length t ≤ length s = omega (arith, ap length x.is, length-drop x.behind s) in
            (rw x.is (bytes_drop s x.behind b), omega (arith, mul-le-mul_left k l));
      }

  -- Tables: a line for each entry, with its index
  module _ {A : Type 0} {r : Reader A} where
    pub costs-indexed : (line_of : ℕ → A → List ℕ) (n i : ℕ) → ((j : ℕ) → j < i + n → Costs 0 k (λ a. length (line_of j a)) r)
        → Costs 0 k (λ xs. length (indexed_from i line_of xs)) (many n r)
    unfolding indexed_from
    costs-indexed line_of zero i h = costs-give (omega arith)
    costs-indexed line_of (suc n) i h =
        costs-then (h i (omega arith)) λ a x.
        costs-then (costs-indexed line_of n (suc i) (λ j l. h j (omega arith))) λ xs y.
        costs-give (omega (arith, length-append (line_of i a) (indexed_from (suc i) line_of xs)))

    pub counted-indexed : (line_of : ℕ → A → List ℕ) → ((j : ℕ) → j < 65536 → Costs 0 k (λ a. length (line_of j a)) r)
        → Costs 0 k (λ xs. length (indexed_from 0 line_of xs)) (counted r)
    counted-indexed line_of h = number-then 2 λ n l. costs-less (λ xs. omega arith) (costs-indexed line_of n 0 (λ j m. h j (omega arith)))

    -- and without an index
    module _ (line_of : A → List ℕ) (h : Costs 0 k (λ a. length (line_of a)) r) where
      pub costs-each : (n : ℕ) → Costs 0 k (λ xs. length (each line_of xs)) (many n r)
      costs-each n = costs-less (λ xs. omega (arith, ap length (each-is line_of 0 xs))) (costs-indexed (λ j. line_of) n 0 (λ j l. h))

      pub counted-each : Costs 0 k (λ xs. length (each line_of xs)) (counted r)
      counted-each = number-then 2 λ n l. costs-less (λ xs. omega arith) (costs-each n)

      pub counted-or-none : Costs 0 k (λ xs. length (each line_of xs)) (counted_or_none r)
      unfolding each
      counted-or-none = record { pays = λ s xs t b e. go s xs t (ltb (length s) 2) b e }
        where
          go : (s : List ℕ) (xs : List A) (t : List ℕ) (z : Bool) → Bytes s → cond z (got [] s) (counted r s) ≡ got xs t
              → Bytes t × (length (each line_of xs) + k * length t ≤ k * length s + 0)
          go s xs t true b e = (costs-give {len = λ xs. length (each line_of xs)} {c = 0} {a = []} (omega arith)).pays s xs t b e
          go s xs t false b e = counted-each.pays s xs t b e
