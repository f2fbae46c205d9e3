-- `base::entry::find_by_width` meets its contract: the entry at an index stands at the index times the width.
use Rattle.std.proofs.Common.{arith}
use Rattle.std.proofs.lemmas.Result.{err_from_is_err_and}
use Rattle.reading.specs.Places.{stops, item}
use Rattle.base.specs.Cut.{place_of}
use Rattle.base.proofs.Entries.{width_out, width_none, width_stop, width_found, width_read}
use Rattle.base.proofs.entry.find_by_width.Goals as goal

pub returns-then-t-index-clause-indexes : goal.returns-then-t-index-clause-indexes
returns-then-t-index-clause-indexes g c = let a = c.args in width_out (g.E.Entry.reader (place_of a.cut)) a.cut.bytes.now a.t a.index c.if-t-index.true

pub returns-then-t-index-clause-anywhere : goal.returns-then-t-index-clause-anywhere
returns-then-t-index-clause-anywhere g c =
    let a = c.args in
    width_none (g.E.Entry.reader (place_of a.cut)) a.cut.bytes.now a.t a.index g.E.OneWidth.WIDTH c.if-t-index.true

pub returns-in_err-entry-clause-indexes : goal.returns-in_err-entry-clause-indexes
returns-in_err-entry-clause-indexes g c =
    let e = err_from_is_err_and c.from_residual.result c.from_residual.ensures.1 in
    let a = c.args in
    let z = rw (c.saturating_mul.ensures, c.WIDTH.ensures) at c.saturating_add-at.ensures in
    λ xs rest d out.
    rw (e.1, e.2)
    (width_stop (g.E.Entry.reader (place_of a.cut)) a.cut.bytes.now a.t a.index _ c.if-t-index.false _ (λ i. omega (arith, a.cut.in_file, z)) (g.met.E.OneWidth.width _) (g.met.E.Entry.stays _ _) xs rest d _ c.in_err-entry.ensures out)

pub returns-in_err-entry-clause-anywhere : goal.returns-in_err-entry-clause-anywhere
returns-in_err-entry-clause-anywhere g c =
    let e = err_from_is_err_and c.from_residual.result c.from_residual.ensures.1 in
    let a = c.args in
    let z = rw (c.saturating_mul.ensures, c.WIDTH.ensures) at c.saturating_add-at.ensures in
    λ out.
    rw (e.1, e.2)
    (width_read (g.E.Entry.reader (place_of a.cut)) a.cut.bytes.now a.t a.index _ c.if-t-index.false _ (λ i. omega (arith, a.cut.in_file, z)) (λ i. omega (arith, a.cut.in_file, z)) (stops _) c.in_err-entry.ensures out)

pub returns-clause-indexes : goal.returns-clause-indexes
returns-clause-indexes g c =
    let a = c.args in
    let z = rw (c.saturating_mul.ensures, c.WIDTH.ensures) at c.saturating_add-at.ensures in
    λ xs rest d out.
    width_found (g.E.Entry.reader (place_of a.cut)) a.cut.bytes.now a.t a.index _ c.if-t-index.false _ (λ i. omega (arith, a.cut.in_file, z)) (g.met.E.OneWidth.width _) (g.met.E.Entry.stays _ _) xs rest d _ _ c.in_ok-entry.ensures out

pub returns-clause-anywhere : goal.returns-clause-anywhere
returns-clause-anywhere g c =
    let a = c.args in
    let z = rw (c.saturating_mul.ensures, c.WIDTH.ensures) at c.saturating_add-at.ensures in
    width_read (g.E.Entry.reader (place_of a.cut)) a.cut.bytes.now a.t a.index _ c.if-t-index.false _ (λ i. omega (arith, a.cut.in_file, z)) (λ i. omega (arith, a.cut.in_file, z)) (item _ _) c.in_ok-entry.ensures
