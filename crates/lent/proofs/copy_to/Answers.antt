use Rattle.std.proofs.Common.{◌+◌, ◌≡◌, length, ℕ, List, slice_index_or, slice_set, ◌++◌}
use mathlib.Core.Path.{ap, subst, ◌∙◌}
use native.Mathlib.Nat.{zero-add}
use native.Mathlib.Omega.{arith}
use lib.ListN.{drop}
use lib.Seq.{paste}
use Rattle.std.proofs.lemmas.List.Edits.{paste_none, paste_more, paste_all}
use Rattle.lent.proofs.copy_to.Goals as goal

pub loop-i-init : goal.loop-i-init
loop-i-init g c = paste_none c.args.part.now 0 c.args.items.now

pub loop-i-preserved : goal.loop-i-preserved
loop-i-preserved g c =
    let d = c.args.part.now in
    let s = c.args.items.now in
    let l = c.loop-i in
    let x = c.index-items-i.result in
    let more = paste_more d 0 s l.i x (omega arith) (omega arith) in
    ap (λ (p : List g.row.T.Denot). slice_set p l.i x) l.invariant
    ∙ ap (λ (y : g.row.T.Denot). slice_set (paste d 0 s l.i) l.i y) c.index-items-i.is
    ∙ subst (λ (k : ℕ). slice_set (paste d 0 s l.i) k (slice_index_or s l.i x) ≡ paste d 0 s (l.i + 1)) (zero-add l.i) more

pub returns : goal.returns
returns g c =
    let d = c.args.part.now in
    let s = c.args.items.now in
    let l = c.loop-i in
    let e : l.i ≡ length s = omega arith in
    l.invariant ∙ paste_all d 0 s l.i e ∙ ap (λ (n : ℕ). s ++ drop n d) (zero-add l.i ∙ e)
