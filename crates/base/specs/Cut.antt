-- A part of the file with its place: the place, and its bytes.
use Rattle.std.specs.Prelude.{ℕ, List, length}
use Rattle.format.specs.Parts.{Place}
use Rattle.base.specs.declared.cut.Cut.{Cut}

abbrev pub place_of : Cut → Place
place_of c = record { offset = c.offset; size = length c.bytes.now }

abbrev pub cut_in : Cut → Place × List ℕ
cut_in c = (place_of c, c.bytes.now)
