-- A lookup in the table of enumerations that continues in the table of an enumeration's values.
use Rattle.std.specs.Prelude.{ℕ, List}
use Rattle.reading.specs.Answer.{Got, ◌>>=◌, indexed}
use Rattle.format.specs.Faults.{no_entry}
use Rattle.format.specs.Parts.{Keep}
use Rattle.format.specs.Debug.{enumeration}
use Rattle.base.specs.Picked.{picked}

-- the name of the value `j` of the enumeration at the index `k`
abbrev pub picked_value : {T : Type 0} → Keep T → List ℕ → ℕ → ℕ → ℕ → ℕ → Got T
picked_value keep s at n k j = picked (enumeration keep) s at n k >>= λ e. indexed no_entry e.values j
