-- `base::digest::digest_at` meets its contract: words one after the other have the bytes at that place.
use borrow.Author.Rules.{rules}
use native.Mathlib.Omega.{arith}
use Rattle.reading.proofs.Le.{Bytes}
use Rattle.base.proofs.Bytes.{words-at}
use Rattle.base.proofs.digest.digest_at.Goals as goal

pub returns : goal.returns
returns c =
    let a = c.args in
    let s = a.s.now in
    let h : Bytes s = λ i. omega (arith, c.type_inv.s i) in
    words-at s h a.at _ (omega arith) (search rules)
