use Rattle.std.proofs.Common.{◌≡◌, length, length-take, length-drop, refl, sym, ◌∙◌, arith, rules}
use Rattle.reading.proofs.Parts.{rest_of}
use Rattle.hasher.specs.Whole.{at_once}
use Rattle.hasher.specs.declared.Hasher.{Hasher}
use Rattle.hasher.proofs.Chunks.{chained-part}
use Rattle.hasher.proofs.Feeding.{Empty, advanced-empty, fed-none}
use Rattle.hasher.proofs.Four.{at-once-fits, chunks-empty}
use Rattle.hasher.proofs.Turns.{full-turn, whole-turn, blocks-turn, part-turn, part-length}
use Rattle.hasher.proofs.Hasher.feed.Goals as goal

-- a state that equals an empty one is empty
empty-as : {r u : Hasher} → r ≡ u → Empty u → Empty r
empty-as e z = rw e z

pub loop-rest-smaller-then-len-ge-BLOCK_LEN : goal.loop-rest-smaller-then-len-ge-BLOCK_LEN
loop-rest-smaller-then-len-ge-BLOCK_LEN c =
    let z = empty-as c.advance-next.ensures (advanced-empty c.loop-rest.h c.block_words.result) in
    omega (arith, z)

pub loop-rest-preserved-then-len-ge-BLOCK_LEN : goal.loop-rest-preserved-then-len-ge-BLOCK_LEN
loop-rest-preserved-then-len-ge-BLOCK_LEN c =
    let l = c.loop-rest in
    let z = empty-as c.advance-next.ensures (advanced-empty l.h c.block_words.result) in
    (z.1, full-turn l.h l.rest.now (search rules) (search rules) c.block_words.ensures c.advance-next.ensures ∙ l.invariant.1)

pub loop-rest-smaller-then-rest-gt-CHUNK_LEN : goal.loop-rest-smaller-then-rest-gt-CHUNK_LEN
loop-rest-smaller-then-rest-gt-CHUNK_LEN c =
    let l = c.loop-rest in
    let f = at-once-fits (length l.rest.now) (search rules) in
    let z = empty-as c.take_whole-next.ensures (chunks-empty (at_once (length l.rest.now)) l.h l.rest.now (search rules, l.invariant.0)) in
    simp (length-take, length-drop) (omega (arith, f, z, c.at_once.ensures))

pub loop-rest-preserved-then-rest-gt-CHUNK_LEN : goal.loop-rest-preserved-then-rest-gt-CHUNK_LEN
loop-rest-preserved-then-rest-gt-CHUNK_LEN c =
    let l = c.loop-rest in
    let n = c.at_once.result in
    let f = at-once-fits (length l.rest.now) (search rules) in
    let z = empty-as c.take_whole-next.ensures (chunks-empty (at_once (length l.rest.now)) l.h l.rest.now (search rules, l.invariant.0)) in
    (z.1, rw rest_of (whole-turn l.h l.rest.now n (search rules) l.invariant.0 (search rules) (rw c.at_once.ensures f.0) (rw c.at_once.ensures c.take_whole-next.ensures) ∙ l.invariant.1))

pub loop-rest-preserved-then-rest-gt-BLOCK_LEN : goal.loop-rest-preserved-then-rest-gt-BLOCK_LEN
loop-rest-preserved-then-rest-gt-BLOCK_LEN c =
    let l = c.loop-rest in
    let n = c.min-n.result in
    let cut = c.split_at.ensures in
    let whole = chained-part n l.h.chaining_value c.counter.result l.h.blocks_compressed _ _ cut.by_index.0 cut.front_len in (
      refl,
      rw cut.back (
          blocks-turn l.h l.rest.now n (search rules) l.invariant.0 (omega arith) (omega arith) (omega arith) c.counter.ensures (c.chain-next.ensures ∙ whole) ∙ l.invariant.1
          ),
    )

pub loop-rest-preserved : goal.loop-rest-preserved
loop-rest-preserved c =
    let l = c.loop-rest in
    let n = c.min-n-else-len-eq0-2.result in
    let cut = c.split_at-else-len-eq0-2.ensures in
    let wrote = c.copy.ensures in (
      part-length l.h l.rest.now n _ l.invariant.0 (omega arith) cut.front_len wrote,
      rw cut.back (part-turn l.h l.rest.now n l.invariant.0 (omega arith) (omega arith) cut.front wrote ∙ l.invariant.1),
    )

pub returns : goal.returns
returns c = let l = c.loop-rest in sym (fed-none l.h l.rest.now 0 (search rules)) ∙ l.invariant.1
