-- `hasher::under` meets its contract: the fold over the values, the newest first, is the definition's root.
use Rattle.std.proofs.Common.{◌∙◌, rules}
use Rattle.std.proofs.lemmas.Iterator.Adapters.{YieldsList-from_rev_slice}
use Rattle.std.proofs.lemmas.Iterator.Consumers.{fold_from_yields_List}
use Rattle.hasher.specs.Hash.{chaining_value, parent_output}
use Rattle.hasher.specs.Stack.{words_of}
use Rattle.hasher.proofs.Stacking.{under-fold}
use Rattle.hasher.proofs.under.Goals as goal

pub returns : goal.returns
returns c =
    let a = c.args in
    fold_from_yields_List _ (λ r v. parent_output (words_of v) (chaining_value r)) a.last _ c.fold.ensures.ran (YieldsList-from_rev_slice a.values.now (cc)) (λ r x s f k. search rules)
    ∙ under-fold a.last a.values.now
