-- Steps that are those over a section's bytes, driven from a table that reads, give its entries.
use mathlib.Core.Path.{◌≡◌, refl, sym, ap, ◌∙◌}
use mathlib.Core.List.{List, []}
use Prim.Native.Nat.{ℕ, zero, suc, ◌-◌, ◌≤◌}
use native.Mathlib.Omega.{arith}
use lib.ListN.{length, drop}
use borrow.Author.Tests.{eq-eqb, ne_eqb}
use Rattle.reading.specs.Reader.{got, Reader, many}
use Rattle.reading.specs.Answer.{found}
use Rattle.reading.specs.Places.{left_of, Next, step_of, driven, Gives}
use Rattle.reading.specs.declared.Table.{Table}
use Rattle.reading.proofs.Tables.{cons}
use Rattle.reading.proofs.Left.{left_at, left-again, Stays}

module _ {A : Type 0} (whole : List ℕ) (r : Reader A) (h : Stays whole r) (step : Table → Next A) (same : (u : Table) → step u ≡ step_of r whole u) where
  steps-from : (k n : ℕ) (t : Table) (xs : List A) (rest : List ℕ) → t.count ≡ k → k ≤ n → many k r (drop t.at whole) ≡ got xs rest → driven step n t ≡ found xs
  unfolding step_of
  steps-from zero zero t xs rest c l e = let z : [] ≡ xs = cc in ap found z
  steps-from zero (suc n) t xs rest c l e = let z : [] ≡ xs = cc in rw (same t, eq-eqb t.count 0 c) (ap found z)
  steps-from (suc k) zero t xs rest c l e = absurd (omega arith)
  steps-from (suc k) (suc n) t xs rest c l e =
      let p = cons r k (drop t.at whole) xs rest e in
      let w = left-again whole p.middle (h.leaves (drop t.at whole) p.first p.middle (left_at whole t.at) p.reads) in
      let g = steps-from k n (record { at = length whole - length p.middle; count = t.count - 1 }) p.others rest (omega arith) (omega arith) (ap (many k r) w ∙ p.reads-others) in
      rw (same t, ne_eqb t.count 0 (λ z. omega arith), p.reads, g) (ap found (sym p.all))

  pub steps-give : (t : Table) (xs : List A) (rest : List ℕ) → left_of r whole t ≡ got xs rest → Gives step t xs
  steps-give t xs rest e = λ n l. steps-from t.count n t xs rest refl l e
