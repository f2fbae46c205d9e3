-- `debug_walks::next` meets its contract: the step over the section's bytes, each fault made into 15.
use Rattle.std.proofs.Common.{◌∙◌, rules}
use Rattle.debug_walks.proofs.Steps.{step_ok, no_debug_is}
use Rattle.debug_walks.proofs.next.Goals as goal

pub returns : goal.returns
returns g c =
    no_debug_is (g.E.Entry.told c.in_ok-debug_cut.field-0.bytes.now) g.E.Entry.kept c.step.result c.map_err.result _ (λ e d q. search rules) c.map_err.ensures.cases
    ∙ step_ok _ _ g.E.Entry.reader _ _ _ c.in_ok-debug_cut.ensures c.step.ensures
