use Rattle.std.proofs.Common.{◌≡◌, ℕ, zero, suc, ◌<◌, List, [], ◌∷◌, refl, ◌∙◌, arith, rules}
use Rattle.compression.specs.Compression.{iv}
use Rattle.reading.proofs.Parts.{rest_of}
use Rattle.wide.specs.Lanes.{lane, from}
use Rattle.wide.proofs.Lanes.{left-all, left_less, last}
use Rattle.wide.proofs.chunks4.Goals as goal

-- what the lanes go on from
begin : (c v : List ℕ) → v ≡ iv → (j : ℕ) → j < 4 → lane (c ∷ v ∷ v ∷ v ∷ []) j ≡ from c j
begin c v e zero p = refl
begin c v e (suc zero) p = e
begin c v e (suc (suc zero)) p = e
begin c v e (suc (suc (suc zero))) p = e
begin c v e (suc (suc (suc (suc j)))) p = absurd (omega arith)

pub loop-b-init : goal.loop-b-init
loop-b-init c = let a = c.args in (omega arith, λ j p. left-all a.s.now a.t j _)

pub loop-b-preserved : goal.loop-b-preserved
loop-b-preserved c =
    let l = c.loop-b in
    let a = c.args in (
      omega arith,
      λ j p. left_less a.s.now a.t j l.b _ (search rules) c.start_flag.ensures.0 (rw rest_of at (c.compress4-next.ensures j p)) ∙ l.invariant.1 j p,
    )

pub returns : goal.returns
returns c =
    let l = c.loop-b in
    let a = c.args in
    λ j p. last a.s.now a.t j l.b _ (omega arith) (l.invariant.1 j p) (begin a.cv _ c.iv-v.ensures j p) (rw rest_of at (c.compress4.ensures j p))
