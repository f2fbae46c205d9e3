-- A table from an entry on: the laws of `table_from`.
use mathlib.Core.Path.{◌≡◌, refl, sym, ap, ◌∙◌}
use mathlib.Core.List.{List, [], ◌∷◌, ◌++◌}
use Prim.Native.Nat.{ℕ, zero, suc, ◌+◌, ◌-◌, ◌≤◌, ◌<◌, min}
use native.Mathlib.Nat.{zero-add}
use native.Mathlib.Decide.{dec_le}
use native.Mathlib.Omega.{arith}
use lib.ListN.{length, drop, length-drop}
use borrow.Author.Tests.{eq-eqb, ne_eqb}
use Rattle.reading.specs.Fault.{Fault, short_input}
use Rattle.reading.specs.Numbers.{le_at}
use Rattle.reading.specs.Reader.{Read, fault, got, Reader, next, give, u16, many, counted}
use Rattle.reading.specs.Answer.{Got, refused, found, ◌>>=◌, item_of, indexed}
use Rattle.reading.specs.Places.{stops_by, on_to, Goes, way_at, Next, ends, faulty, entry, step_of}
use Rattle.reading.specs.Tables.{table_from}
use Rattle.reading.specs.declared.Table.{Table}
use Rattle.reading.proofs.Reading.{never, both, number_at, number_short}
use Rattle.reading.proofs.Given.{goes_at}
use Rattle.reading.proofs.Width.{width-number}
use Rattle.reading.proofs.Tables.{many-length, at-walked, index-out, never-stops}
use Rattle.reading.proofs.Local.{local-number}
use Rattle.reading.proofs.Left.{left-all, left-again, Stays, stays-local, stays-many}

-- what the first step of a walk makes of a lookup
abbrev pub first_of : {A : Type 0} → Fault → Next A → Got A
first_of out ends = refused out
first_of out (faulty f) = refused f
first_of out (entry a t) = found a

module _ {A : Type 0} (r : Reader A) where
  -- some entries, and those behind them
  many-split : (j m : ℕ) (x : List ℕ) → many (j + m) r x ≡ next (many j r x) (λ vs y. next (many m r y) (λ bs. give (vs ++ bs)))
  many-split zero m x = rw (zero-add m) (go (many m r x))
    where
      go : (y : Read (List A)) → y ≡ next y (λ bs. give ([] ++ bs))
      go (fault f) = refl
      go (got bs z) = refl
  many-split (suc j) m x = let z : suc j + m ≡ suc (j + m) = omega arith in rw z (go (many-split j m) (r x))
    where
      last : (a : A) (vs : List A) (y : Read (List A)) → next (next y (λ bs. give (vs ++ bs))) (λ bs. give (a ∷ bs)) ≡ next y (λ bs. give ((a ∷ vs) ++ bs))
      last a vs (fault f) = refl
      last a vs (got bs z) = refl

      more : (a : A) (y : Read (List A)) → next (next y (λ vs z. next (many m r z) (λ bs. give (vs ++ bs)))) (λ bs. give (a ∷ bs))
          ≡ next (next y (λ vs. give (a ∷ vs))) (λ vs z. next (many m r z) (λ bs. give (vs ++ bs)))
      more a (fault f) = refl
      more a (got vs z) = last a vs (many m r z)

      go : ((z : List ℕ) → many (j + m) r z ≡ next (many j r z) (λ vs y. next (many m r y) (λ bs. give (vs ++ bs)))) → (y : Read A)
          → next y (λ a z. next (many (j + m) r z) (λ bs. give (a ∷ bs)))
          ≡ next (next y (λ a z. next (many j r z) (λ vs. give (a ∷ vs)))) (λ vs z. next (many m r z) (λ bs. give (vs ++ bs)))
      go rec (fault f) = refl
      go rec (got a z) = rw (rec z) (more a (many j r z))

  -- a table without its count
  pub from-short : (whole k : ℕ) (s : List ℕ) (f : Fault) → u16 s ≡ fault f → table_from whole k r s ≡ fault f
  unfolding table_from
  from-short whole k s f c = rw c

  -- a table whose count was read, by what all entries and the first `k` of them read
  module _ (whole k n : ℕ) (s x : List ℕ) (c : u16 s ≡ got n x) where
    split : many n r x ≡ next (many (min k n) r x) (λ vs y. next (many (n - k) r y) (λ bs. give (vs ++ bs)))
    split = let z : n ≡ min k n + (n - k) = omega arith in ap (λ (i : ℕ). many i r x) z ∙ many-split (min k n) (n - k) x

    pub from-stop : (f : Fault) → many n r x ≡ fault f → table_from whole k r s ≡ fault f
    unfolding table_from
    from-stop f e = rw c (go (many (min k n) r x) (sym split ∙ e))
      where
        rest : (vs : List A) (y : List ℕ) (z : Read (List A)) → next z (λ bs. give (vs ++ bs)) ≡ fault f → next {B = Table} z (λ bs. give (record { at = whole - length y; count = n - k })) ≡ fault f
        rest vs y (fault d) h = cc
        rest vs y (got bs z) h = never (sym h)

        go : (y : Read (List A)) → next y (λ vs y. next (many (n - k) r y) (λ bs. give (vs ++ bs))) ≡ fault f
            → next {B = Table} y (λ vs y. next (many (n - k) r y) (λ bs. give (record { at = whole - length y; count = n - k }))) ≡ fault f
        go (fault d) h = cc
        go (got vs y) h = rest vs y (many (n - k) r y) h

    pub from-whole : (vs bs : List A) (y z : List ℕ) → many n r x ≡ got bs z → many (min k n) r x ≡ got vs y → table_from whole k r s ≡ got (record { at = whole - length y; count = n - k }) z
    unfolding table_from
    from-whole vs bs y z e g =
        let h : next (many (n - k) r y) (λ bs. give (vs ++ bs)) ≡ got bs z = rw g at (sym split ∙ e) in
        let b = both (many (n - k) r y) h in
        let d : b.middle ≡ z = cc b.second in
        rw (c, g, b.first, d)

  -- a lookup is the first step of a walk from its index on
  from_found : (k n : ℕ) (s x : List ℕ) → Stays s r → u16 s ≡ got n x → (xs : List A) (rest : List ℕ) → many n r x ≡ got xs rest → (out : Fault)
      → (item_of (table_from (length s) k r s) >>= λ t. first_of out (step_of r s t)) ≡ indexed out xs k
  unfolding step_of
  from_found k n s x st c xs rest e out = go (many (min k n) r x) refl
    where
      there : (vs : List A) (y : List ℕ) → many (min k n) r x ≡ got vs y → Dec (n ≤ k) → first_of out (step_of r s (record { at = length s - length y; count = n - k })) ≡ indexed out xs k
      there vs y g (yes i) = rw (eq-eqb (n - k) 0 (omega arith)) (sym (index-out r k n x xs rest out i e))
      there vs y g (no i) =
          let z : min k n ≡ k = omega arith in
          let a = at-walked r k n x y xs vs rest (omega arith) e (rw z at g) in
          let w = left-again s y ((stays-many s (min k n) st).leaves x vs y ((stays-local s (local-number 2)).leaves s n x (left-all s) c) g) in
          rw (ne_eqb (n - k) 0 (λ h. omega arith), w, a.reads) (sym (a.picked out))

      go : (y : Read (List A)) → many (min k n) r x ≡ y → (item_of (table_from (length s) k r s) >>= λ t. first_of out (step_of r s t)) ≡ indexed out xs k
      go (fault f) g = absurd (never-stops r (min k n) n x xs rest f (omega arith) e g)
      go (got vs y) g = rw (from-whole (length s) k n s x c vs xs y rest e g) (there vs y g (dec_le n k))

  pub from-lookup : (k : ℕ) (s : List ℕ) → Stays s r → (out : Fault)
      → (item_of (table_from (length s) k r s) >>= λ t. first_of out (step_of r s t)) ≡ (item_of (counted r s) >>= λ xs. indexed out xs k)
  from-lookup k s st out = go (u16 s) refl
    where
      all : (n : ℕ) (x : List ℕ) → u16 s ≡ got n x → (y : Read (List A)) → many n r x ≡ y
          → (item_of (table_from (length s) k r s) >>= λ t. first_of out (step_of r s t)) ≡ (item_of y >>= λ xs. indexed out xs k)
      all n x c (fault f) e = rw (from-stop (length s) k n s x c f e)
      all n x c (got xs rest) e = from_found k n s x st c xs rest e out

      go : (y : Read ℕ) → u16 s ≡ y → (item_of (table_from (length s) k r s) >>= λ t. first_of out (step_of r s t)) ≡ (item_of (next y (λ n. many n r)) >>= λ xs. indexed out xs k)
      go (fault f) c = rw (from-short (length s) k s f c)
      go (got n x) c = all n x c (many n r x) refl

  -- the whole table stands behind its count
  pub from_first : (s : List ℕ) → item_of (table_from (length s) 0 r s) ≡ (item_of (counted r s) >>= λ xs. found (record { at = 2; count = length xs }))
  from_first s = go (u16 s) refl
    where
      all : (n : ℕ) (x : List ℕ) → u16 s ≡ got n x → (y : Read (List A)) → many n r x ≡ y → item_of (table_from (length s) 0 r s) ≡ (item_of y >>= λ xs. found (record { at = 2; count = length xs }))
      all n x c (fault f) e = ap item_of (from-stop (length s) 0 n s x c f e)
      all n x c (got xs rest) e =
          let w = (width-number 2).takes s n x c in
          let l = ap length w.0 ∙ length-drop 2 s in
          let a : length s - length x ≡ 2 = omega (arith, w.1) in
          let b : n - 0 ≡ length xs = omega (arith, many-length r n x xs rest e) in
          let m : min 0 n ≡ 0 = omega arith in
          ap item_of (from-whole (length s) 0 n s x c [] xs x rest e (rw m)) ∙ rw (a, b)

      go : (y : Read ℕ) → u16 s ≡ y → item_of (table_from (length s) 0 r s) ≡ (item_of (next y (λ n. many n r)) >>= λ xs. found (record { at = 2; count = length xs }))
      go (fault f) c = ap item_of (from-short (length s) 0 s f c)
      go (got n x) c = all n x c (many n r x) refl

-- a table from an entry on, by how far those before it and the others reach
module _ {A : Type 0} (r : Reader A) (s : List ℕ) (h : Stays s r) (k : ℕ) where
  pub table_short : length s - 0 < 2 → refused short_input ≡ item_of (table_from (length s) k r s)
  table_short l = sym (ap item_of (from-short r (length s) k s short_input (number_short 2 s (omega arith))))

  -- `n` entries in all, `m` of them before the index `k`
  module _ (n m : ℕ) (w : 2 ≤ length s) (c : n ≡ le_at 2 s 0) (before : m ≡ min k n) where
    count-read : u16 s ≡ got n (drop 2 s)
    count-read = rw c (number_at 2 s 0 2 refl w)

    pub table_first_err : (f : Fault) → stops_by f ≡ way_at (many m r) s 2 → refused f ≡ item_of (table_from (length s) k r s)
    unfolding table_from
    table_first_err f e = let g = goes_at (stays-many s m h) 2 e in rw (count-read, ← before, g)

    -- and `j` from there on
    module _ (j p : ℕ) (others : j ≡ n - k) (e : on_to p ≡ way_at (many m r) s 2) where
      passed : Goes (many m r) s 2 (on_to p)
      passed = goes_at (stays-many s m h) 2 e

      pub table_err : (f : Fault) → stops_by f ≡ way_at (many j r) s p → refused f ≡ item_of (table_from (length s) k r s)
      unfolding table_from
      table_err f d = let g = goes_at (stays-many s j h) p d in rw (count-read, ← before, passed.1.1, ← others, g)

      pub table_ok : (q : ℕ) → on_to q ≡ way_at (many j r) s p → found (record { at = p; count = j }) ≡ item_of (table_from (length s) k r s)
      unfolding table_from
      table_ok q d =
          let l = length-drop p s in
          let i = passed.0 in
          let z : length s - length (drop p s) ≡ p = omega arith in
          let g = goes_at (stays-many s j h) p d in
          rw (count-read, ← before, passed.1.1, ← others, g.1.1, z)
