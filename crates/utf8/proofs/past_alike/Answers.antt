use mathlib.Core.Path.{sym, ◌∙◌}
use Rattle.utf8.specs.Utf8.{◌to◌}
use Rattle.utf8.proofs.Table.{to_end}
use Rattle.utf8.proofs.Passing.{alike}
use Rattle.utf8.proofs.past_alike.Goals as goal

pub loop-k-preserved : goal.loop-k-preserved
loop-k-preserved c =
    let a = c.args in
    let l = c.loop-k in
    rw (to_end c.in-Some.k l.rest.now)
    (alike a.n _ (a.low to a.high) _ _ l.invariant c.requires.length c.requires.row (sym c.loop-k-test.true ∙ c.has.ensures) c.in-Some.ensures.value)
