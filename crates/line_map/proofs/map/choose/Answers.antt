use Rattle.std.proofs.Common.{sym, ap, ◌∙◌, arith}
use borrow.Author.Tests.{eq-eqb, ne_eqb}
use Rattle.line_map.specs.Answers.{maybe_line}
use Rattle.line_map.proofs.Choosing.{choice-end, choice-above, choice-more}
use Rattle.line_map.proofs.map.choose.Goals as goal
use Rattle.line_map.proofs.map.choose.Goals.{then-e-function_id, else-e-function_id}

pub loop-i-preserved : goal.loop-i-preserved
loop-i-preserved c =
    let l = c.loop-i in
    let test = sym c.is_above.ensures ∙ c.if-is_above.false in
    let on = choice-more c.args.map.now _ _ l.i _ l.invariant.1 _ (omega arith) c.entry_of-e.ensures test (maybe_line c.if-e-function_id.best) in (
      omega arith,
      on (elim c.if-e-function_id.branch [
        | then-e-function_id w ↦ ap maybe_line w.best-is ∙ w.better-best.ensures ∙ rw (eq-eqb _ _ w.if-e-function_id.true)
        | else-e-function_id w ↦ ap maybe_line w.best-is ∙ rw (ne_eqb _ _ w.if-e-function_id.false)
      ]),
    )

pub returns-then-i-map : goal.returns-then-i-map
returns-then-i-map c = choice-end c.args.map.now _ _ c.loop-i.i _ c.loop-i.invariant.1 (omega arith)

pub returns-then-is_above : goal.returns-then-is_above
returns-then-is_above c = choice-above c.args.map.now _ _ c.loop-i.i _ c.loop-i.invariant.1 _ (omega arith) c.entry_of-e.ensures (sym c.is_above.ensures ∙ c.if-is_above.true)
