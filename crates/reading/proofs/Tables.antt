-- Lookups in a table that is readable: the entry at an index stands where the walk over those before it ends, and in a table of one width at
-- its index times the width.
use mathlib.Core.Path.{◌≡◌, refl, sym, ap, ◌∙◌}
use mathlib.Core.List.{List, [], ◌∷◌}
use Prim.Native.Nat.{ℕ, zero, suc, ◌+◌, ◌*◌, ◌≤◌, ◌<◌}
use native.Mathlib.Nat.{mul-suc, mul-zero}
use native.Mathlib.Decide.{dec_le}
use native.Mathlib.Omega.{arith}
use lib.ListN.{length, take, drop, length-drop}
use lib.Seq.{drop-drop}
use Rattle.reading.specs.Fault.{Fault}
use Rattle.reading.specs.Numbers.{le_at}
use Rattle.reading.specs.Reader.{Read, fault, got, Reader, next, give, many, counted}
use Rattle.reading.specs.Answer.{Got, refused, found, indexed}
use Rattle.reading.specs.Places.{Step, stops, item, on_to, Goes, Holds}
use Rattle.reading.specs.declared.Table.{Table}
use Rattle.reading.proofs.Reading.{never, both}
use Rattle.reading.proofs.Passing.{counted-short, counted-as}
use Rattle.reading.proofs.Width.{Width, width-many}

-- the item at an index, read at `x`
pub record At {A : Type 0} (r : Reader A) (xs : List A) (k : ℕ) (x : List ℕ) : Type 0 where
  pub item : A
  pub behind : List ℕ
  pub reads : r x ≡ got item behind
  pub picked : (out : Fault) → indexed out xs k ≡ found item

-- what an item that was read makes of a lookup
abbrev pub answer_by : {A : Type 0} → Step A → Got A
answer_by (stops f) = refused f
answer_by (item a m) = found a

-- the first of several items, and those behind it
pub record Cons {A : Type 0} (r : Reader A) (n : ℕ) (x : List ℕ) (xs : List A) (rest : List ℕ) : Type 0 where
  pub first : A
  pub others : List A
  pub middle : List ℕ
  pub reads : r x ≡ got first middle
  pub reads-others : many n r middle ≡ got others rest
  pub all : xs ≡ first ∷ others

pub cons : {A : Type 0} (r : Reader A) (n : ℕ) (x : List ℕ) (xs : List A) (rest : List ℕ) → many (suc n) r x ≡ got xs rest → Cons r n x xs rest
cons r n x xs rest e =
    let p = both (r x) e in
    let q = both (many n r p.middle) p.second in
    let z : q.middle ≡ rest = cc in
    record { first = p.item; others = q.item; middle = p.middle; reads = p.first; reads-others = rw z at q.first; all = cc }

module _ {A : Type 0} (r : Reader A) where
  -- behind k items that were passed stands the item of index k
  pub at-walked : (k n : ℕ) (x y : List ℕ) (xs bs : List A) (rest : List ℕ) → k < n → many n r x ≡ got xs rest → many k r x ≡ got bs y → At r xs k y
  at-walked k zero x y xs bs rest h e g = absurd (omega arith)
  at-walked zero (suc n) x y xs bs rest h e g =
      let c = cons r n x xs rest e in
      let z : x ≡ y = cc in
      record { item = c.first; behind = c.middle; reads = ap r (sym z) ∙ c.reads; picked = λ out. ap (λ v. indexed out v 0) c.all }
  at-walked (suc k) (suc n) x y xs bs rest h e g =
      let c = cons r n x xs rest e in
      let d = cons r k x bs y g in
      let z : d.middle ≡ c.middle = cc (c.reads, d.reads) in
      let w = at-walked k n c.middle y c.others d.others rest (omega arith) c.reads-others (rw z at d.reads-others) in
      record { item = w.item; behind = w.behind; reads = w.reads; picked = λ out. ap (λ v. indexed out v (suc k)) c.all ∙ w.picked out }

  -- k items that were passed are the first k
  pub many-take : (k n : ℕ) (x y : List ℕ) (xs bs : List A) (rest : List ℕ) → k ≤ n → many n r x ≡ got xs rest → many k r x ≡ got bs y → bs ≡ take k xs
  many-take zero n x y xs bs rest h e g = cc
  many-take (suc k) zero x y xs bs rest h e g = absurd (omega arith)
  many-take (suc k) (suc n) x y xs bs rest h e g =
      let c = cons r n x xs rest e in
      let d = cons r k x bs y g in
      let z : d.middle ≡ c.middle = cc (c.reads, d.reads) in
      let a : d.first ≡ c.first = cc (c.reads, d.reads) in
      let w = many-take k n c.middle y c.others d.others rest (omega arith) c.reads-others (rw z at d.reads-others) in
      rw (d.all, c.all, a, w)

  -- in a table of width w the item of index k stands at k times w
  pub at_width : {w : ℕ} → Width w r → (k n : ℕ) (x : List ℕ) (xs : List A) (rest : List ℕ) → k < n → many n r x ≡ got xs rest → At r xs k (drop (w * k) x)
  at_width {w} hw k zero x xs rest h e = absurd (omega arith)
  at_width {w} hw zero (suc n) x xs rest h e =
      let c = cons r n x xs rest e in
      record { item = c.first; behind = c.middle; reads = rw (mul-zero w) c.reads; picked = λ out. ap (λ v. indexed out v 0) c.all }
  at_width {w} hw (suc k) (suc n) x xs rest h e =
      let c = cons r n x xs rest e in
      let m = (hw.takes x c.first c.middle c.reads).0 in
      let i = at_width hw k n c.middle c.others rest (omega arith) c.reads-others in
      let j : w + w * k ≡ w * suc k = omega (arith, mul-suc w k) in
      let z : drop (w * k) c.middle ≡ drop (w * suc k) x = ap (drop (w * k)) m ∙ drop-drop (w * k) w x ∙ ap (λ (i : ℕ). drop i x) j in
      record { item = i.item; behind = i.behind; reads = rw z at i.reads; picked = λ out. ap (λ v. indexed out v (suc k)) c.all ∙ i.picked out }

  -- an index that is not below the count
  pub index-out : (k n : ℕ) (x : List ℕ) (xs : List A) (rest : List ℕ) (out : Fault) → n ≤ k → many n r x ≡ got xs rest → indexed out xs k ≡ refused out
  index-out k zero x xs rest out h e = let z : xs ≡ [] = cc in rw z
  index-out zero (suc n) x xs rest out h e = absurd (omega arith)
  index-out (suc k) (suc n) x xs rest out h e =
      let c = cons r n x xs rest e in
      ap (λ v. indexed out v (suc k)) c.all ∙ index-out k n c.middle c.others rest out (omega arith) c.reads-others

  -- no walk over a part of a readable table stops
  pub never-stops : (k n : ℕ) (x : List ℕ) (xs : List A) (rest : List ℕ) (f : Fault) → k ≤ n → many n r x ≡ got xs rest → many k r x ≡ fault f → ⊥
  never-stops zero n x xs rest f h e g = never (sym g)
  never-stops (suc k) zero x xs rest f h e g = absurd (omega arith)
  never-stops (suc k) (suc n) x xs rest f h e g =
      let c = cons r n x xs rest e in
      never-stops k n c.middle c.others rest f (omega arith) c.reads-others (no_more c.first (many k r c.middle) (rw c.reads at g))
    where
      no_more : (a : A) (y : Read (List A)) → next y (λ bs. give (a ∷ bs)) ≡ fault f → y ≡ fault f
      no_more a (fault d) q = cc
      no_more a (got bs m) q = never (sym q)

  -- the item that the code reads there is the one of the index
  pub at-picked : {xs : List A} {k : ℕ} {x : List ℕ} → At r xs k x → (a : A) (t : List ℕ) → r x ≡ got a t → (out : Fault) → indexed out xs k ≡ found a
  at-picked h a t e out = let z : h.item ≡ a = cc (h.reads, e) in h.picked out ∙ ap found z

  pub at_reads : {xs : List A} {k : ℕ} {x : List ℕ} → At r xs k x → (f : Fault) → r x ≡ fault f → ⊥
  at_reads h f e = never (sym e ∙ h.reads)

  -- the same over the places of a section
  module _ (s : List ℕ) (t : Table) (xs : List A) (h : Holds r s t xs) where
    pub holds_walked : (k m : ℕ) → k < t.count → Goes (many k r) s t.at (on_to m) → At r xs k (drop m s)
    holds_walked k m l g = at-walked k t.count (drop t.at s) (drop m s) xs g.1.0 h.rest l h.reads g.1.1

    pub holds-stops : (k : ℕ) (f : Fault) → k ≤ t.count → many k r (drop t.at s) ≡ fault f → ⊥
    holds-stops k f l g = never-stops k t.count (drop t.at s) xs h.rest f l h.reads g

    pub holds-out : (k : ℕ) (out : Fault) → t.count ≤ k → indexed out xs k ≡ refused out
    holds-out k out l = index-out k t.count (drop t.at s) xs h.rest out l h.reads

  -- a table of n entries has n of them
  pub many-length : (n : ℕ) (x : List ℕ) (xs : List A) (rest : List ℕ) → many n r x ≡ got xs rest → length xs ≡ n
  many-length zero x xs rest e = let z : xs ≡ [] = cc in rw z
  many-length (suc n) x xs rest e =
      let c = cons r n x xs rest e in
      ap length c.all ∙ ap suc (many-length n c.middle c.others rest c.reads-others)

  -- a table with its count in front that reads stands behind the count
  pub counted-stands : (s : List ℕ) (at : ℕ) (xs : List A) (x : List ℕ) → at ≤ length s → counted r (drop at s) ≡ got xs x → Holds r s (record { at = at + 2; count = length xs }) xs
  counted-stands s at xs x h c = go (dec_le (at + 2) (length s))
    where
      go : Dec (at + 2 ≤ length s) → Holds r s (record { at = at + 2; count = length xs }) xs
      go (yes i) =
          let e = sym (counted-as r s at (le_at 2 s at) i refl) ∙ c in
          let l = many-length (le_at 2 s at) (drop (at + 2) s) xs x e in
          record { within = i; rest = x; reads = ap (λ (n : ℕ). many n r (drop (at + 2) s)) l ∙ e }
      go (no i) = never (sym (counted-short r s at (omega arith)) ∙ c)

  -- a table that reads has as many entries as its count says
  pub holds-count : (s : List ℕ) (t : Table) (xs : List A) → Holds r s t xs → t.count ≡ length xs
  holds-count s t xs h = sym (many-length t.count (drop t.at s) xs h.rest h.reads)

-- `n` items that were read at a place: they stand there as a table, and items of one width reach as far as they are many
module _ {A : Type 0} (r : Reader A) (n at : ℕ) (s x rest : List ℕ) (xs : List A) (e : x ≡ drop at s) (h : at ≤ length s) (g : many n r x ≡ got xs rest) where
  pub holds_at : Holds r s (record { at = at; count = length xs }) xs
  holds_at =
      record {
        within = h;
        rest = rest;
        reads = ap (λ (i : ℕ). many i r (drop at s)) (many-length r n x xs rest g) ∙ ap (many n r) (sym e) ∙ g;
      }

  pub reaches : {w : ℕ} → Width w r → (rest ≡ drop (at + w * length xs) s) × (at + w * length xs ≤ length s)
  reaches {w} hw =
      let l = many-length r n x xs rest g in
      let k = (width-many n hw).takes x xs rest g in
      let d = ap length e ∙ length-drop at s in
      let z : w * length xs ≡ w * n = ap (λ (i : ℕ). w * i) l in
      (k.0 ∙ ap (drop (w * n)) e ∙ drop-drop (w * n) at s ∙ ap (λ (i : ℕ). drop (at + i) s) (sym z), omega (arith, k.1))
