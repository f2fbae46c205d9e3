-- `hasher::CvStack::push` meets its contract.
use Rattle.std.proofs.Common.{◌≡◌, ◌-◌, min, ap, ◌∙◌, arith, rules}
use Rattle.std.proofs.Math.ListN.{drop}
use Rattle.hasher.specs.Stack.{levels, values_of, joined}
use Rattle.hasher.proofs.Stacking.{newest, push-stored, push-lost}
use Rattle.hasher.proofs.CvStack.push.Goals as goal
use Rattle.hasher.proofs.CvStack.push.Goals.{then-place-lt-LEVELS, else-place-lt-LEVELS}

pub returns : goal.returns
returns c =
    let a = c.args in
    let n = c.saturating_sub-place.result in
    let e : n ≡ min a.self.len levels - a.joins = cc in
    let q : c.joined-words.result ≡ joined a.cv (drop n (values_of a.self)) = c.joined-words.ensures ∙ ap (joined a.cv) (newest a.self n (c.min-len.result - n) (search rules) (omega arith)) in
    elim c.if-place-lt-LEVELS.branch [
      | then-place-lt-LEVELS w ↦ cc (push-stored a.self a.joins n a.cv c.joined-words.result (search rules) e q)
      | else-place-lt-LEVELS w ↦ cc (push-lost a.self a.joins n a.cv c.joined-words.result (search rules) e q (omega arith))
    ]
