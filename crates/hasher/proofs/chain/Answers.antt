use Rattle.std.proofs.Common.{◌<◌, ◌/◌, length, ◌∙◌, arith}
use Rattle.compression.specs.Sizes.{block_len}
use Rattle.compression.proofs.Chain.{begins, turn, ends}
use Rattle.hasher.proofs.Chunks.{block_words}
use Rattle.hasher.proofs.chain.Goals as goal

pub loop-i-init : goal.loop-i-init
loop-i-init c = let a = c.args in begins a.s.now a.cv 0 (length a.s.now / block_len) a.t a.first

pub loop-i-preserved : goal.loop-i-preserved
loop-i-preserved c =
    let a = c.args in
    let l = c.loop-i in
    let more : l.i < length a.s.now / block_len = omega (arith, c.as_chunks.ensures.front_len) in
    let w = block_words (length a.s.now / block_len) l.i a.s.now more in
    turn a.s.now l.c 0 (length a.s.now / block_len) a.t a.first l.i more
    c.start_flag-flag.ensures.0 (rw c.as_chunks.ensures.front at c.block_words.ensures ∙ w) c.compress_in_place.ensures ∙ l.invariant

pub returns : goal.returns
returns c =
    let a = c.args in
    let l = c.loop-i in
    ends a.s.now l.c 0 (length a.s.now / block_len) a.t a.first l.i (omega (arith, c.as_chunks.ensures.front_len)) ∙ l.invariant
