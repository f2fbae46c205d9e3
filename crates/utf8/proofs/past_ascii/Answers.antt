use borrow.Author.Rules.{rules}
use lib.Dec.{T}
use lib.ListN.{replicate}
use Rattle.utf8.specs.Utf8.{◌to◌, starts}
use Rattle.utf8.proofs.Table.{to_end}
use Rattle.utf8.proofs.Passing.{ascii_byte, ascii_run}
use Rattle.utf8.proofs.past_ascii.Goals as goal

pub loop-rest-preserved : goal.loop-rest-preserved
loop-rest-preserved c =
    let l = c.loop-rest in
    let t : T (starts (replicate 8 (0x00 to 0x7F)) l.rest.now) = rw (← c.eight.ensures.value, c.loop-rest-test.true) tt in
    rw (to_end 8 l.rest.now) (ascii_run 8 _ _ l.invariant t)

pub loop-rest-2-preserved : goal.loop-rest-2-preserved
loop-rest-2-preserved c =
    let l = c.loop-rest-2 in
    rw (to_end 1 l.rest.now) (ascii_byte _ _ l.invariant c.in-0-to-127.len_at_least (search rules))
