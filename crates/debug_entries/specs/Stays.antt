-- What the reader of an enumeration leaves is what stands behind it.
use Rattle.std.specs.Prelude.{ℕ, List}
use Rattle.reading.proofs.Local.{local-give}
use Rattle.reading.proofs.Left.{Stays, stays-local, stays-bind}
use Rattle.format.specs.Parts.{Place, Keep}
use Rattle.format.proofs.Leaves.{stays-enumeration}
use Rattle.debug_entries.specs.Answers.{entry_of, enumeration_entry}

pub entry_stays : (base : ℕ) (keep : Keep Place) (s : List ℕ) → Stays s (enumeration_entry base keep)
entry_stays base keep s = stays-bind s (stays-enumeration keep s) λ e. stays-local s (local-give (entry_of base e))
