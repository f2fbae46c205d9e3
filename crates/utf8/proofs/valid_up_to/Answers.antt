use mathlib.Core.List.{[], ◌∷◌, Memᴰ}
use mathlib.Core.Path.{refl}
use lib.Dec.{T}
use Rattle.utf8.specs.Utf8.{◌to◌, starts}
use Rattle.utf8.proofs.Table.{to_end}
use Rattle.utf8.proofs.Passing.{ascii_run, passed_more, passed_then}
use Rattle.utf8.proofs.valid_up_to.Goals as goal

pub past_alike-rest-requires-clause-row : goal.past_alike-rest-requires-clause-row
past_alike-rest-requires-clause-row c = Memᴰ.tail (Memᴰ.head refl)

pub past_alike-rest-requires-in_default-n-clause-row : goal.past_alike-rest-requires-in_default-n-clause-row
past_alike-rest-requires-in_default-n-clause-row c = Memᴰ.tail (Memᴰ.tail (Memᴰ.tail (Memᴰ.head refl)))

pub loop-rest-preserved-then-has : goal.loop-rest-preserved-then-has
loop-rest-preserved-then-has c =
    let l = c.loop-rest in
    let t : T (starts (0x00 to 0x7F ∷ []) l.rest.now) = rw (← c.if-has.ensures) tt in
    passed_then (ascii_run 1 _ _ l.invariant t) (rw to_end at c.past_ascii-rest.ensures)

pub loop-rest-preserved-in-2 : goal.loop-rest-preserved-in-2
loop-rest-preserved-in-2 c = passed_then (passed_more c.loop-rest.invariant c.in-Some.ensures) (rw to_end at c.past_alike-rest.ensures)

pub loop-rest-preserved : goal.loop-rest-preserved
loop-rest-preserved c = passed_then (passed_more c.loop-rest.invariant c.in-Some.ensures) (rw to_end at c.past_alike-rest-in_default-n.ensures)
