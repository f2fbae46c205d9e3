-- `ConstEntry::read` meets its contract: too few bytes, a type or a size that is refused, or the constant that stands there.
use Rattle.std.proofs.Common.{ℕ, ◌+◌, drop, ◌∙◌, refl, ap, sym, arith}
use Rattle.std.proofs.lemmas.Result.{err_from_is_err_and}
use Rattle.reading.specs.Reader.{fault, got}
use Rattle.format.specs.Faults.{invalid_constant_type}
use Rattle.format.specs.Parts.{Place, by_place}
use Rattle.format.specs.Constants.{Kept}
use Rattle.base.specs.Small.{const_type_number}
use Rattle.base.specs.Cut.{place_of}
use Rattle.base.proofs.Entries.{read_short, read_err, read_ok}
use Rattle.constant_pool.proofs.Entries.{constant-short, constant-type, constant-size, constant-few, constant-whole}
use Rattle.constant_pool.proofs.ConstEntryEntry.read.Goals as goal

pub returns-then-left-lt-HEAD_SIZE : goal.returns-then-left-lt-HEAD_SIZE
returns-then-left-lt-HEAD_SIZE c = let a = c.args in read_short _ a.cut.bytes.now (constant-short (by_place (place_of a.cut))) a.at (omega arith)

pub returns-in_err-const_type : goal.returns-in_err-const_type
returns-in_err-const_type c =
    let e = err_from_is_err_and c.from_residual.result c.from_residual.ensures.1 in
    let a = c.args in
    let k = by_place (place_of a.cut) in
    rw (e.1, e.2) (read_err _ a.cut.bytes.now a.at _ (constant-type k a.cut.bytes.now a.at _ (omega arith) refl c.u8_at.result _ c.u8_at.ensures c.in_err-const_type.ensures))

pub returns-then-not-size_fits : goal.returns-then-not-size_fits
returns-then-not-size_fits c =
    let a = c.args in
    let k = by_place (place_of a.cut) in
    read_err _ a.cut.bytes.now a.at _ (constant-size k a.cut.bytes.now a.at c.u16_at-size.result (omega arith) c.u16_at-size.ensures c.u8_at.result _ c.u8_at.ensures c.in_ok-const_type.ensures (sym c.size_fits.ensures ∙ c.if-not-size_fits.true) ∙ ap (λ (n : ℕ). fault (invalid_constant_type n)) (sym c.number.ensures))

pub returns-then-left-size : goal.returns-then-left-size
returns-then-left-size c =
    let a = c.args in
    let k = by_place (place_of a.cut) in
    read_err _ a.cut.bytes.now a.at _ (constant-few k a.cut.bytes.now a.at c.u16_at-size.result (omega arith) c.u16_at-size.ensures c.u8_at.result _ c.u8_at.ensures c.in_ok-const_type.ensures (sym c.size_fits.ensures ∙ c.if-not-size_fits.false) (omega arith))

pub returns : goal.returns
returns c =
    let a = c.args in
    let k = by_place (place_of a.cut) in
    read_ok _ a.cut.bytes.now a.at _ _ (omega arith) (constant-whole k a.cut.bytes.now a.at c.u16_at-size.result (omega arith) c.u16_at-size.ensures c.u8_at.result _ c.u8_at.ensures c.in_ok-const_type.ensures (sym c.size_fits.ensures ∙ c.if-not-size_fits.false) (omega arith) ∙ ap (λ (x : Kept Place). got (record { kind = const_type_number c.in_ok-const_type.const_type; kept = x }) (drop (a.at + 4 + c.u16_at-size.result) a.cut.bytes.now)) (sym c.kept_at-kept.ensures))
