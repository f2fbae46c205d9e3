-- `compression::join` meets its contract: the first half is `l`, and the second `r`.
use Rattle.std.proofs.Common.{◌≡◌, ℕ, List, [], ◌++◌, length, take, drop, replicate, ◌∙◌, sym, ap₂, arith, rules, append-nil, length-append, take-append-drop, drop_of_length-le}
use Rattle.std.proofs.lemmas.Slice.{take-put_mid, drop-put_mid}
use Rattle.std.proofs.lemmas.List.{take-append-le}
use Rattle.std.proofs.Math.Seq.{take_all}
use borrow.Rule.Slice.PartMut.{put_mid}
use Rattle.compression.proofs.join.Goals as goal

joined : (l r : List ℕ) → length l ≡ 8 → length r ≡ 8 → put_mid 8 8 (l ++ replicate 8 0) r ≡ l ++ r
joined l r p q =
    let xs : List ℕ = l ++ replicate 8 0 in
    let n : length xs ≡ 16 = omega (arith, length-append l (replicate 8 0)) in
    let front : take 8 xs ≡ l = take-append-le 8 l (replicate 8 0) (omega arith) ∙ take_all 8 l (omega arith) in
    let rest : drop 16 xs ≡ [] = drop_of_length-le xs {i = 16} (omega arith) in
    sym (take-append-drop 16 (put_mid 8 8 xs r))
    ∙ ap₂ (λ (x y : List ℕ). x ++ y) (take-put_mid 8 8 xs r 16 (omega arith) (omega arith)) (drop-put_mid 8 8 xs r 16 (omega arith) (omega arith) q ∙ rest)
    ∙ append-nil _ ∙ ap₂ (λ (x y : List ℕ). x ++ y) front (λ i. r)

pub returns : goal.returns
returns c =
    rw (c.copy_from_slice.ensures.after, c.copy_from_slice-2.ensures.after) (joined c.args.l c.args.r (search rules) (search rules))
