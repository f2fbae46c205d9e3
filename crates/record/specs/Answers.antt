-- What the code's record means.
use Rattle.std.specs.Prelude.{ℕ, List}
use Rattle.std.specs.Prelude as std
use Rattle.std.proofs.Math.Option.{Option, none, some}
use Rattle.reading.specs.Answer.{Got, found, ◌>>=◌}
use Rattle.format.specs.Record as format
use Rattle.format.specs.Lookups.{debug_answers}
use Rattle.header.specs.Answers.{header_in}
use Rattle.task_table.specs.Answers as tasks
use Rattle.type_section.specs.Answers as types
use Rattle.type_section.specs.declared.TypeCounts.{TypeCounts}
use Rattle.debug_entries.specs.Answers.{EnumerationWithValues, with_values}
use Rattle.debug_tables.specs.Answers.{maybe_debug, rows_in_force}
use Rattle.record.specs.declared.Container.{Container}

abbrev pub maybe_types : std.Option TypeCounts → Option format.TypeCounts
maybe_types std.None = none
maybe_types (std.Some c) = some (types.type_counts_in c)

abbrev pub container_in : Container → format.Container
container_in c =
    record {
      header = header_in c.header;
      tasks = tasks.task_counts_in c.tasks;
      types = maybe_types c.types;
      constants = c.constants;
      debug = maybe_debug c.debug;
      in_force = rows_in_force c.in_force;
    }

-- an enumeration with the table of its values' names
abbrev pub enumeration_with : List ℕ → format.Container → ℕ → Got EnumerationWithValues
enumeration_with f r i = (debug_answers f r).enumeration i >>= λ h. found (with_values r.header.directory.debug.offset h)
