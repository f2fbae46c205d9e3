-- What the code's answers mean.
use Rattle.std.specs.Prelude.{List, ℕ, Option, Some, None, Result, Ok, Err, IfOk}
use Rattle.format.specs.Parts.{Place, Inside}
use Rattle.base.specs.Cut.{cut_in}
use Rattle.base.specs.declared.cut.Cut.{Cut}
use Rattle.base.specs.declared.error.ContainerError.{ContainerError}
use Rattle.base.specs.declared.error.ContainerError.TheVariants as e
use Rattle.debug_text.specs.declared.DebugFault.{DebugFault}
use Rattle.debug_tables.specs.SixTags.{DebugTables}

-- where there are starts, the section lies in the file. This follows from `starts_at`; it is stated for callers, who slice by it
abbrev pub StartsInside : List ℕ → Place → Result DebugTables ContainerError → Type 0
StartsInside f p answer = IfOk answer (λ t. Inside f p)

-- the section's bytes, and where the tables in force stand in them
abbrev pub opened_in : Cut × DebugTables → (Place × List ℕ) × DebugTables
opened_in x = (cut_in x.0, x.1)

-- what a lookup in a table answers: 15 where the table does not read, 29 where it has no such entry
abbrev pub answered : {T : Type 0} → Result (Option T) DebugFault → Result T ContainerError
answered (Err f) = Err e.NoDebug
answered (Ok None) = Err e.NoEntry
answered (Ok (Some x)) = Ok x
