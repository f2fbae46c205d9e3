-- `text::put_hex` meets its contract: there is room, so hex's digits are written, which are ours.
use native.Mathlib.Omega.{arith}
use Rattle.text.proofs.Hex.{on_ok, wrote_hexes}
use Rattle.text.proofs.Parts.{hexes_length}
use Rattle.text.proofs.put_hex.Goals as goal

pub returns : goal.returns
returns c =
    let a = c.args in
    let l = hexes_length a.bytes.now in
    let fits = c.encode_to_slice.ensures.fits.1 (omega arith) in
    let written = on_ok _ fits c.encode_to_slice.ensures.written in
    wrote_hexes a.out.now a.at a.bytes.now _ c.requires written (λ i. omega (arith, c.type_inv.bytes i))
