use Rattle.std.proofs.Common.{◌≡◌, ◌*◌, ◌<◌, ◌≢◌, length, length-set, arith, get_or-set_other, get_or-set_same, below_more}
use Rattle.reading.proofs.Parts.{rest_of}
use Rattle.compression.specs.Sizes.{chunk_len}
use Rattle.wide.proofs.Lanes.{one}
use Rattle.wide.proofs.compress4.Goals as goal

pub loop-i-preserved : goal.loop-i-preserved
loop-i-preserved c =
    let a = c.args in
    let l = c.loop-i in
    let here : c.compress.result ≡ one a.h a.s.now a.t a.flags l.i = cc (rest_of a.s.now (chunk_len * l.i)) in
    let inside : l.i < length l.lane-items = omega arith in
    record {
      long = simp length-set l.invariant.long;
      done =
          below_more _ _
          (λ j p. let other : j ≢ l.i = omega arith in rw get_or-set_other (l.invariant.done j p))
          (rw get_or-set_same here);
    }
