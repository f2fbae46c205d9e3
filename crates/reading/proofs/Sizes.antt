-- Readers of items whose size is known from the item.
use mathlib.Core.Path.{◌≡◌, sym, subst, ◌∙◌}
use mathlib.Core.List.{List}
use Prim.Native.Nat.{ℕ, ◌+◌, ◌*◌, ◌≤◌}
use native.Mathlib.Omega.{arith}
use lib.ListN.{length, drop, length-drop}
use lib.Seq.{drop-drop}
use Rattle.reading.specs.Reader.{got, Reader, number, many, counted}
use Rattle.reading.proofs.Reading.{both}
use Rattle.reading.proofs.Width.{Width, width-number, width-many}
use Rattle.reading.proofs.Tables.{many-length}

pub record Takes {A : Type 0} (size : A → ℕ) (r : Reader A) : Type 0 where
  pub takes : (s : List ℕ) (a : A) (t : List ℕ) → r s ≡ got a t → (t ≡ drop (size a) s) × (size a ≤ length s)

pub takes-width : {A : Type 0} {r : Reader A} {k : ℕ} (n : ℕ) → Width k r → Takes (λ xs. k * length xs) (many n r)
takes-width {A} {r} {k} n h =
    record { takes = λ s xs t e. subst (λ m. (t ≡ drop (k * m) s) × (k * m ≤ length s)) (sym (many-length r n s xs t e)) ((width-many n h).takes s xs t e) }

-- the entries behind a count
pub counted-left : {A : Type 0} (r : Reader A) (s : List ℕ) (xs : List A) (t : List ℕ) → counted r s ≡ got xs t → (many (length xs) r (drop 2 s) ≡ got xs t) × (2 ≤ length s)
counted-left r s xs t e =
    let p = both (number 2 s) e in
    let w = (width-number 2).takes s p.item p.middle p.first in
    (rw (many-length r p.item p.middle xs t p.second, ← w.0) p.second, w.1)

pub takes-counted : {A : Type 0} {r : Reader A} {size : List A → ℕ} → ((n : ℕ) → Takes size (many n r)) → Takes (λ xs. 2 + size xs) (counted r)
takes-counted {A} {r} {size} h =
    record {
      takes = λ s xs t e.
          let k = counted-left r s xs t e in
          let w = (h (length xs)).takes (drop 2 s) xs t k.0 in
          let d = length-drop 2 s in
          (w.0 ∙ drop-drop (size xs) 2 s, omega (arith, w.1, k.1));
    }
