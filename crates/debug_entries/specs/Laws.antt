-- The claims on every table of the section `s` at `base`: a walk over it, step by step, gives what reading it gives; where it reads, a lookup in it
-- is indexing into its entries; and the names and paths that a lookup or a step gives lie in the section. A bad text is told by its place.
use Rattle.std.specs.Prelude.{ℕ, ◌+◌, ◌≤◌, ◌≡◌, List, length}
use Rattle.reading.specs.Reader.{Reader, got, many}
use Rattle.reading.specs.Answer.{found, item_of, indexed}
use Rattle.reading.specs.Places.{stops, step_at, way_at, left_of, Holds, entry, step_of, walked}
use Rattle.reading.specs.declared.Table.{Table}
use Rattle.format.specs.Faults.{no_entry}
use Rattle.format.specs.Parts.{Place}
use Rattle.format.specs.Debug.{name, Variable, variable, FunctionName, function_name, string_layout, SourceFile, source_file, Enumeration, enumeration}
use Rattle.requests.specs.BadPlace.{BadText}
use Rattle.debug_text.specs.Answers.{keep_in, debug_fault_of}
use Rattle.debug_text.specs.declared.DebugFault.TheVariants as debug_fault
use Rattle.base.specs.Picked.{picked}
use Rattle.debug_entries.specs.Answers.{entry_of, enumeration_entry}

-- a part of the file that lies in the section
pub record Lies (base : ℕ) (s : List ℕ) (p : Place) : Type 0 where
  pub starts : base ≤ p.offset
  pub ends : p.offset + p.size ≤ base + length s

-- a table of entries; each entry that is given is `P`
pub record Walkable {A : Type 0} (P : A → Type 0) (r : Reader A) (s : List ℕ) : Type 0 where
  pub walk : (t : Table) → walked t.count r s t ≡ item_of (left_of r s t)
  pub lookup : (t : Table) (k : ℕ) (xs : List A) (rest : List ℕ) → left_of r s t ≡ got xs rest → picked r s t.at t.count k ≡ indexed no_entry xs k
  pub found-is : (at n k : ℕ) (a : A) → picked r s at n k ≡ found a → P a
  pub step_is : (t u : Table) (a : A) → step_of r s t ≡ entry a u → P a

module _ (base : ℕ) (s : List ℕ) where
  abbrev pub VariableLies : Variable Place → Type 0
  VariableLies v = Lies base s v.named × Lies base s v.type_name

  abbrev pub FunctionLies : FunctionName Place → Type 0
  FunctionLies f = Lies base s f.named

  abbrev pub FileLies : SourceFile Place → Type 0
  FileLies f = Lies base s f.located

  -- and the table of its values' names is where `entry_of` says
  abbrev pub EnumerationLies : Enumeration Place → Type 0
  EnumerationLies e =
      Lies base s e.named × ((j : ℕ) (p : Place) → indexed no_entry e.values j ≡ found p → Lies base s p)
      × Holds (name (keep_in base s)) s (entry_of base e).values e.values

-- Document 02, slip 1: whatever meets the contract of a reader of entries and tells a bad text tells the place of a text's first bad byte
abbrev pub Placed : {A : Type 0} → Reader A → List ℕ → Type 0
Placed r s = (at p : ℕ) → at ≤ length s → stops (debug_fault_of s (debug_fault.BadText p)) ≡ step_at r s at → BadText s p

pub record Laws : Type 0 where
  pub variable-placed : (base : ℕ) (s : List ℕ) → Placed (variable (keep_in base s)) s
  pub function-name-placed : (base : ℕ) (s : List ℕ) → Placed (function_name (keep_in base s)) s
  pub source-file-placed : (base : ℕ) (s : List ℕ) → Placed (source_file (keep_in base s)) s
  pub enumeration-placed : (base : ℕ) (s : List ℕ) → Placed (enumeration_entry base (keep_in base s)) s
  pub names : (base : ℕ) (s : List ℕ) → Walkable (Lies base s) (name (keep_in base s)) s
  pub variables : (base : ℕ) (s : List ℕ) → Walkable (VariableLies base s) (variable (keep_in base s)) s
  pub functions : (base : ℕ) (s : List ℕ) → Walkable (FunctionLies base s) (function_name (keep_in base s)) s
  pub strings : (s : List ℕ) → Walkable (λ l. Unit {0}) string_layout s
  pub files : (base : ℕ) (s : List ℕ) → Walkable (FileLies base s) (source_file (keep_in base s)) s
  pub enumerations : (base : ℕ) (s : List ℕ) → Walkable (EnumerationLies base s) (enumeration (keep_in base s)) s
  -- the code's entries of enumerations are passed over as the enumerations are
  pub enumerations-passed : (base : ℕ) (s : List ℕ) (n at : ℕ) → way_at (many n (enumeration_entry base (keep_in base s))) s at ≡ way_at (many n (enumeration (keep_in base s))) s at
