-- Items made into others: the same places are passed.
use mathlib.Core.Path.{◌≡◌, refl, sym, ap, ◌∙◌}
use mathlib.Core.List.{List, ◌∷◌, map}
use Prim.Native.Nat.{ℕ, zero, suc}
use lib.ListN.{drop}
use Rattle.reading.specs.Fault.{Fault}
use Rattle.reading.specs.Reader.{Read, fault, got, Reader, next, ◌>>=◌, give, many}
use Rattle.reading.specs.Places.{Holds}
use Rattle.reading.specs.declared.Table.{Table}
use Rattle.reading.proofs.Reading.{never, both}

module _ {A B : Type 0} (m : A → B) where
  abbrev pub made : Reader A → Reader B
  made r = r >>= λ a. give (m a)

  -- what was read for it
  pub made-stops : (x : Read A) (f : Fault) → next x (λ a. give (m a)) ≡ fault f → x ≡ fault f
  made-stops (fault d) f e = cc
  made-stops (got a t) f e = never (sym e)

  pub made-gives : (x : Read A) (b : B) (t : List ℕ) → next x (λ a. give (m a)) ≡ got b t → (a : A) × (x ≡ got a t) × (m a ≡ b)
  made-gives x b t e =
      let k = both x e in
      let z : k.middle ≡ t = cc k.second in
      let w : m k.item ≡ b = cc k.second in
      (k.item, k.first ∙ ap (got k.item) z, w)

  pub many-made : (r : Reader A) (n : ℕ) (x : List ℕ) → many n (made r) x ≡ next (many n r x) (λ xs. give (map m xs))
  many-made r zero x = refl
  many-made r (suc n) x = go (many-made r n) (r x)
    where
      last : (a : A) (y : Read (List A)) → next (next y (λ xs. give (map m xs))) (λ bs. give (m a ∷ bs)) ≡ next (next y (λ xs. give (a ∷ xs))) (λ xs. give (map m xs))
      last a (fault f) = refl
      last a (got xs z) = refl

      go : ((z : List ℕ) → many n (made r) z ≡ next (many n r z) (λ xs. give (map m xs))) → (y : Read A)
          → next (next y (λ a. give (m a))) (λ b z. next (many n (made r) z) (λ bs. give (b ∷ bs))) ≡ next (next y (λ a z. next (many n r z) (λ xs. give (a ∷ xs)))) (λ xs. give (map m xs))
      go rec (fault f) = refl
      go rec (got a z) = rw (rec z) (last a (many n r z))

  module _ (r : Reader A) (s : List ℕ) where
    pub holds-made : (t : Table) (xs : List A) → Holds r s t xs → Holds (made r) s t (map m xs)
    holds-made t xs h = record { within = h.within; rest = h.rest; reads = many-made r t.count (drop t.at s) ∙ ap (λ y. next y (λ xs. give (map m xs))) h.reads }
