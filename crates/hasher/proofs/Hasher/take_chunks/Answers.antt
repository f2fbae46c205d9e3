use Rattle.std.proofs.Common.{◌≡◌, arith, rules}
use Rattle.hasher.specs.Whole.{chunks_done}
use Rattle.hasher.proofs.Four.{passed-more}
use Rattle.hasher.proofs.Hasher.take_chunks.Goals as goal

pub loop-cv-preserved : goal.loop-cv-preserved
loop-cv-preserved c =
    let l = c.loop-cv in
    passed-more c.args.self l.h c.args.s.now l.cv-index l.invariant (search rules) (c.chunks4-cv-items.ensures l.cv-index (search rules)) c.chunk_done-next.ensures

pub returns : goal.returns
unfolding chunks_done
returns c =
    let l = c.loop-cv in
    let all : l.cv-index ≡ 4 = omega arith in
    rw all at l.invariant.same
