use mathlib.Core.Path.{◌≡◌}
use borrow.Author.Rules.{rules}
use Rattle.utf8.proofs.Ascii.{near-end, counted-more, counted-other}
use Rattle.utf8.proofs.eight.Goals as goal
use Rattle.utf8.proofs.eight.Goals.{then-s-k-le127, else-s-k-le127}

pub loop-k-preserved : goal.loop-k-preserved
loop-k-preserved c =
    let a = c.args in
    let l = c.loop-k in (
      search rules,
      search rules,
      elim c.if-s-k-le127.branch [
        | then-s-k-le127 w ↦ counted-more a.s.now l.k l.n _ (search rules) l.invariant.2 w.if-s-k-le127.true w.n-is
        | else-s-k-le127 w ↦ counted-other a.s.now l.k l.n _ (search rules) l.invariant.2 w.if-s-k-le127.false w.n-is
      ],
    )

pub returns-clause-value : goal.returns-clause-value
returns-clause-value c =
    let l = c.loop-k in
    let e : l.k ≡ 8 = search rules in
    rw e at l.invariant.2.1

pub returns-then-s-lt8-clause-value : goal.returns-then-s-lt8-clause-value
returns-then-s-lt8-clause-value c = search near-end
