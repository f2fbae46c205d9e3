-- `record_numbers::back::all_fit` meets its contract: what `all` answers over the pairs.
use Rattle.std.proofs.Common.{◌∙◌, ap, arith, rules, tests, leb}
use Rattle.std.specs.Slice.Iter.{iter_rest}
use Rattle.std.proofs.lemmas.Iterator.{YieldsList-from_slice, YieldsList-from_zip}
use Rattle.std.proofs.lemmas.Iterator.Search.{all_from_yields_List}
use Rattle.record_numbers.proofs.Bounds.{fits-pairs}
use Rattle.record_numbers.proofs.back.all_fit.Goals as goal

pub returns : goal.returns
returns c =
    let a = c.args in
    let pairs = YieldsList-from_zip {s = c.zip.result} (YieldsList-from_slice a.numbers.now (ap iter_rest c.zip.ensures.first ∙ c.iter.ensures.rest)) (YieldsList-from_slice a.most.now c.zip.ensures.second.0) in
    all_from_yields_List (λ p. leb p.0 p.1) c.all.new.self _ c.all.result c.all.ensures.ran pairs (λ x b q k. search (rules, tests))
    ∙ fits-pairs a.most.now a.numbers.now (omega arith)
