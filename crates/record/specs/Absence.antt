-- Which section a lookup in types or debug reads. Where the record lacks it: 10 over the limit, else 16 for types and 15 for debug (document 01:
-- "A record without types or debug gives 16 or 15 for any entry of theirs").
use Rattle.std.specs.Prelude.{ℕ, cond, List, leb, length}
use Rattle.std.proofs.Math.Option.{Option, none, some}
use Rattle.reading.specs.Fault.{Fault}
use Rattle.reading.specs.Answer.{Got, refused, found}
use Rattle.format.specs.Faults.{too_long, no_array, no_debug}
use Rattle.format.specs.Parts.{limit, Place}
use Rattle.format.specs.Record.{Container}

-- the refusal: 10 over the limit, else `out`
abbrev pub absent_fault : Fault → List ℕ → Fault
absent_fault out f = cond (leb (length f) limit) out too_long

-- a section's place, where the record has one
abbrev pub place_by : {C : Type 0} → Fault → List ℕ → Place → Option C → Got Place
place_by out f p none = refused (absent_fault out f)
place_by out f p (some counts) = found p

abbrev pub types_place : List ℕ → Container → Got Place
types_place f r = place_by no_array f r.header.directory.types r.types

abbrev pub debug_place : List ℕ → Container → Got Place
debug_place f r = place_by no_debug f r.header.directory.debug r.debug
