-- Where the walks over a file and a record start: 10, then the absence of types (16) or debug (15), then the place (4) and the section's own
-- refusal (for debug both 15), then the table.
use Rattle.std.specs.Prelude.{ℕ, List, leb, length}
use Rattle.std.proofs.Math.Option.{Option, none, some}
use Rattle.reading.specs.Answer.{Got, refused, found, ◌>>=◌, ◌>>◌, need}
use Rattle.reading.specs.declared.Table.{Table}
use Rattle.format.specs.Faults.{too_long, no_debug}
use Rattle.format.specs.Parts.{limit, Place}
use Rattle.format.specs.Record.{DebugCounts, Container}
use Rattle.format.specs.Lookups.{types_in}
use Rattle.task_table.specs.Lookups.{tasks_at, programs_at}
use Rattle.type_entries.specs.Starts.{fb_types_start, arrays_start, user_fbs_start}
use Rattle.constant_pool.specs.Lookups.{start_at}
use Rattle.code_section.specs.Lookups.{directory_at}
use Rattle.debug_tables.specs.SixTags.{DebugTables}
use Rattle.debug_section.specs.Lookups.{starts_at}

abbrev pub tasks_start_in : List ℕ → Container → Got Table
tasks_start_in f r = tasks_at f r.header.directory.tasks

abbrev pub programs_start_in : List ℕ → Container → Got Table
programs_start_in f r = programs_at f r.header.directory.tasks

abbrev pub fb_types_start_in : List ℕ → Container → Got Table
fb_types_start_in f r = types_in f r >>= λ t. found (fb_types_start t)

abbrev pub arrays_start_in : List ℕ → Container → Got Table
arrays_start_in f r = types_in f r >>= λ t. found (arrays_start t)

abbrev pub user_fbs_start_in : List ℕ → Container → Got Table
user_fbs_start_in f r = types_in f r >>= λ t. found (user_fbs_start t)

abbrev pub constants_start_in : List ℕ → Container → Got Table
constants_start_in f r = start_at f r.header.directory.constants

abbrev pub functions_start_in : List ℕ → Container → Got Table
functions_start_in f r = directory_at f r.header.directory.code r.header.runtime.functions

-- by what the record says of debug: absence gives 15
abbrev pub debug_starts_by : List ℕ → Place → Option DebugCounts → Got DebugTables
debug_starts_by f p none = need (leb (length f) limit) too_long >> refused no_debug
debug_starts_by f p (some counts) = starts_at f p

abbrev pub debug_starts_in : List ℕ → Container → Got DebugTables
debug_starts_in f r = debug_starts_by f r.header.directory.debug r.debug
