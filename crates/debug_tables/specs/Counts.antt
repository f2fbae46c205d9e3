-- How many entries the tables in force have (document 01, "Sections", Debug), or why the section does not read.
use Rattle.std.specs.Prelude.{ℕ, List}
use Rattle.reading.specs.Answer.{Got, found, ◌>>=◌, item_of}
use Rattle.format.specs.Parts.{by_bytes}
use Rattle.format.specs.Debug.{debug_tables}
use Rattle.format.specs.Record.{DebugCounts, table_counts}

abbrev pub counts_read : List ℕ → Got DebugCounts
counts_read s = item_of (debug_tables by_bytes s) >>= λ t. found (table_counts t)
