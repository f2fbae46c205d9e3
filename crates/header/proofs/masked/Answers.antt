-- `header::masked` meets its contract: the byte of the flags, and then three parts filled with zeros.
use Rattle.std.proofs.Common.{◌≡◌, length, rules}
use Rattle.header.proofs.Masking.{room-second, room-third, masked-by}
use Rattle.header.proofs.masked.Goals as goal

pub slice_bounds-image-end-2 : goal.slice_bounds-image-end-2
slice_bounds-image-end-2 c =
    let h = c.args.header.now in
    let l : length h ≡ 256 = search rules in
    room-second h c.without_debug_bit.result l (c.fill.ensures.after (λ y e. e))

pub slice_bounds-image-end-3 : goal.slice_bounds-image-end-3
slice_bounds-image-end-3 c =
    let h = c.args.header.now in
    let l : length h ≡ 256 = search rules in
    room-third h c.without_debug_bit.result l (c.fill.ensures.after (λ y e. e)) (c.fill-2.ensures.after (λ y e. e))

pub returns : goal.returns
returns c =
    let h = c.args.header.now in
    let l : length h ≡ 256 = search rules in
    masked-by h l c.without_debug_bit.ensures (c.fill.ensures.after (λ y e. e)) (c.fill-2.ensures.after (λ y e. e)) (c.fill-3.ensures.after (λ y e. e))
