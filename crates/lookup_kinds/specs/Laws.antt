-- What a lookup reads of a record (document 01: "the section is read alone at the record's place, size and function count; the record's other counts are not
-- trusted. .. A record without types or debug gives 16 or 15"): the places of the five sections, the function count, and whether there are types and debug.
-- No lookup reads the magic, a hash, reserved bytes or a count of entries.
use Rattle.std.specs.Prelude.{ℕ, Bool, true, false, List, ◌≡◌}
use Rattle.std.proofs.Math.Option.{Option, none, some}
use Rattle.format.specs.Record.{Container}
use Rattle.lookup_kinds.specs.Kinds.{looked_up}

abbrev pub present : {A : Type 0} → Option A → Bool
present none = false
present (some a) = true

-- two records that agree in all of that
pub record SameForLookups (r s : Container) : Type 0 where
  pub tasks : r.header.directory.tasks ≡ s.header.directory.tasks
  pub types : r.header.directory.types ≡ s.header.directory.types
  pub constants : r.header.directory.constants ≡ s.header.directory.constants
  pub code : r.header.directory.code ≡ s.header.directory.code
  pub debug : r.header.directory.debug ≡ s.header.directory.debug
  pub functions : r.header.runtime.functions ≡ s.header.runtime.functions
  pub has_types : present r.types ≡ present s.types
  pub has_debug : present r.debug ≡ present s.debug

pub record Laws : Type 0 where
  -- over any file the lookups of every kind answer the same over both
  pub same-lookups : (f : List ℕ) (r s : Container) → SameForLookups r s → (kind i j : ℕ) → looked_up f r kind i j ≡ looked_up f s kind i j
