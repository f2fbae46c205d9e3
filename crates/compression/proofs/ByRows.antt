-- The steps on a row are done word by word, and the steps of a round on rows give the round of the definition.
use Rattle.std.proofs.Common.{◌≡◌, ℕ, List, [], ◌∷◌, length, sym, refl, ap, ◌∙◌}
use Rattle.compression.specs.Word.{table}
use Rattle.compression.specs.Compression.{at, quarter, put, mix, round}
use Rattle.compression.specs.Rows.{sum, turn, four, half, shifted, back}
use Rattle.compression.specs.Laws.{spread}

-- the columns, then the diagonals
unfoldable by_rows : List ℕ → List ℕ → List ℕ
by_rows v m = back (half (shifted (half v (four m 0 2 4 6) (four m 1 3 5 7))) (four m 8 10 12 14) (four m 9 11 13 15))

-- on a state that is written out both sides compute
written : (v0 v1 v2 v3 v4 v5 v6 v7 v8 v9 v10 v11 v12 v13 v14 v15 : ℕ) (m : List ℕ)
    → (let v : List ℕ = v0 ∷ v1 ∷ v2 ∷ v3 ∷ v4 ∷ v5 ∷ v6 ∷ v7 ∷ v8 ∷ v9 ∷ v10 ∷ v11 ∷ v12 ∷ v13 ∷ v14 ∷ v15 ∷ [] in by_rows v m ≡ round v m)
unfolding by_rows back shifted half sum turn round mix put quarter
written v0 v1 v2 v3 v4 v5 v6 v7 v8 v9 v10 v11 v12 v13 v14 v15 m = refl

rows : (v m : List ℕ) → length v ≡ 16 → by_rows v m ≡ round v m
unfolding table
rows v m h =
    let e = spread v 16 h in
    ap (λ (x : List ℕ). by_rows x m) e
    ∙ written (at v 0) (at v 1) (at v 2) (at v 3) (at v 4) (at v 5) (at v 6) (at v 7) (at v 8) (at v 9) (at v 10) (at v 11) (at v 12) (at v 13) (at v 14) (at v 15) m
    ∙ sym (ap (λ (x : List ℕ). round x m) e)

-- the steps of a round
pub steps : (v m : List ℕ) {c s d r : List ℕ} → length v ≡ 16
    → c ≡ half v (four m 0 2 4 6) (four m 1 3 5 7)
    → s ≡ shifted c
    → d ≡ half s (four m 8 10 12 14) (four m 9 11 13 15)
    → r ≡ back d
    → r ≡ round v m
unfolding by_rows
steps v m h e1 e2 e3 e4 = cc (rows v m h)
