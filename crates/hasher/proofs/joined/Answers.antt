-- `hasher::joined` meets its contract: the fold over the values, the newest first, is the definition's join.
use Rattle.std.proofs.Common.{◌∙◌, rules}
use Rattle.std.proofs.lemmas.Iterator.Adapters.{YieldsList-from_rev_slice}
use Rattle.std.proofs.lemmas.Iterator.Consumers.{fold_from_yields_List}
use Rattle.hasher.specs.Hash.{chaining_value, parent_output}
use Rattle.hasher.specs.Stack.{words_of}
use Rattle.hasher.proofs.Stacking.{joined-fold}
use Rattle.hasher.proofs.joined.Goals as goal

pub returns : goal.returns
returns c =
    let a = c.args in
    fold_from_yields_List _ (λ r v. chaining_value (parent_output (words_of v) r)) a.cv _ c.fold.ensures.ran (YieldsList-from_rev_slice a.values.now (cc)) (λ r x s f k. search rules)
    ∙ joined-fold a.cv a.values.now
