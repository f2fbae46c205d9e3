-- An array made by a closure is the table of what the closure gives.
use Rattle.std.proofs.Common.{◌≡◌, ℕ, zero, suc, ◌+◌, ◌<◌, ◌≤◌, List, get_or, ◌∙◌, subst, ⊎_elim, eq-or-lt_of_le, arith}
use Rattle.std.specs.Fn.{Mut}
use Rattle.std.specs.Iterator.{ActsAs}
use Rattle.std.specs.Array.{IsFromFnResultFrom, IsFromFnResult}
use Rattle.compression.specs.Word.{table}
use Rattle.compression.specs.Laws.{spread, table-ext}

module _ {F : Type 0} (g : Mut F (ℕ × Unit {0}) ℕ) (h : ℕ → ℕ) (f : F) (acts : ActsAs g f h) where
  each : (ys : List ℕ) (n i : ℕ) → IsFromFnResultFrom g f ys i n → (j : ℕ) → i ≤ j → j < i + n → get_or ys j 0 ≡ h j
  each ys zero i m j p q = absurd (omega arith)
  each ys (suc n) i m j p q =
      let a = acts i m.1 m.0 m.3 in
      ⊎_elim
      (λ (e : i ≡ j). rw e at (m.2.1 0 ∙ a.1))
      (λ (l : i < j). each ys n (i + 1) (subst (λ (k : F). IsFromFnResultFrom g k ys (i + 1) n) a.0 m.4) j (omega arith) (omega arith))
      (eq-or-lt_of_le p)

  pub made : (ys : List ℕ) (n : ℕ) → IsFromFnResult g f ys n → ys ≡ table h n
  made ys n r = spread ys n r.long ∙ table-ext (λ i. get_or ys i 0) h n (λ i p. each ys n 0 r.each i (omega arith) (omega arith))
