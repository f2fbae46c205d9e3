-- What the code's constants mean, and what holds of the parts in them.
use Rattle.std.specs.Prelude.{ℕ, ◌+◌, ◌≤◌}
use Rattle.reading.specs.Numbers.{bytes_le}
use Rattle.format.specs.Parts.{Place}
use Rattle.format.specs.Constants as format
use Rattle.format.specs.Constants.{Constant, number, string}
use Rattle.base.specs.Small.{const_type_number}
use Rattle.base.specs.Section.{part_in}
use Rattle.constant_pool.specs.declared.Kept.{Kept}
use Rattle.constant_pool.specs.declared.Kept.TheVariants as kept
use Rattle.constant_pool.specs.declared.ConstEntry.{ConstEntry}

-- a constant: a number by its eight bytes, a string by its place in the file
abbrev pub kept_in : Kept → format.Kept Place
kept_in (kept.Number n) = number (bytes_le 8 n)
kept_in (kept.Part p) = string (part_in p)

abbrev pub const_in : ConstEntry → Constant Place
const_in c = record { kind = const_type_number c.const_type; kept = kept_in c.kept }

-- a string ends at `most` or before. For an answer this follows from its equation; it is stated beside it for callers, who slice the file by it
abbrev pub KeptEnds : ℕ → Kept → Type 0
KeptEnds most (kept.Number n) = Unit {0}
KeptEnds most (kept.Part p) = p.offset + p.size ≤ most
