-- A walk over a file and a record starts where a method of the record says and goes on by the table's step. Over any file and any record it gives, entry
-- by entry, the table that the lookups of this record index into; and where they refuse for the section (10, absence, its place, its own refusal), the
-- start refuses in the same way.
use Rattle.std.specs.Prelude.{ℕ, ◌≡◌, List, map}
use Rattle.reading.specs.Answer.{Got, found, ◌>>=◌, indexed}
use Rattle.reading.specs.Reader.{Reader}
use Rattle.reading.specs.Places.{Next, driven}
use Rattle.reading.specs.declared.Table.{Table}
use Rattle.format.specs.Faults.{no_entry}
use Rattle.format.specs.Parts.{Place, by_place}
use Rattle.format.specs.Debug.{line, name, variable, function_name, string_layout, source_file, Enumeration, Tables}
use Rattle.format.specs.Record.{Container}
use Rattle.format.specs.Lookups.{tasks_in, types_in, constants_in, code_in, debug_in}
use Rattle.task_table.specs.Lookups.{next_task_at, next_program_at}
use Rattle.type_section.specs.Laws.{fb_types_driven}
use Rattle.type_section.specs.Lookups.{next_fb_type_at, next_field_at, next_array_at, next_user_fb_at}
use Rattle.constant_pool.specs.Lookups.{next_constant_at}
use Rattle.code_section.specs.Lookups.{next_function_at}
use Rattle.debug_entries.specs.Answers.{entry_of, enumeration_entry}
use Rattle.debug_tables.specs.SixTags.{DebugTables}
use Rattle.debug_walks.specs.Steps.{debug_step_at}
use Rattle.record.specs.Starts.{tasks_start_in, programs_start_in, fb_types_start_in, arrays_start_in, user_fbs_start_in, constants_start_in, functions_start_in, debug_starts_in}

-- from where it starts, as many steps as the table has entries
abbrev pub walk : {A : Type 0} → Got Table → (Table → Next A) → Got (List A)
walk start step = start >>= λ t. driven step t.count t

-- a walk over one of the debug tables, of which the record answers all starts at once
abbrev pub debug_walk : {A : Type 0} → List ℕ → Container → (DebugTables → Table) → Reader A → Got (List A)
debug_walk f r table entry = debug_starts_in f r >>= λ t. driven (debug_step_at f r.header.directory.debug entry) (table t).count (table t)

pub record Walks (f : List ℕ) (r : Container) : Type 0 where
  pub tasks : walk (tasks_start_in f r) (next_task_at f r.header.directory.tasks) ≡ (tasks_in f r >>= λ t. found t.tasks)
  pub programs : walk (programs_start_in f r) (next_program_at f r.header.directory.tasks) ≡ (tasks_in f r >>= λ t. found t.programs)
  -- each with its fields
  pub fb-types : (fb_types_start_in f r >>= λ t. fb_types_driven (next_fb_type_at f r.header.directory.types) (next_field_at f r.header.directory.types) t.count t) ≡ (types_in f r >>= λ t. found t.fb_types)
  pub arrays : walk (arrays_start_in f r) (next_array_at f r.header.directory.types) ≡ (types_in f r >>= λ t. found t.arrays)
  pub user-fbs : walk (user_fbs_start_in f r) (next_user_fb_at f r.header.directory.types) ≡ (types_in f r >>= λ t. found t.user_fbs)
  pub constants : walk (constants_start_in f r) (next_constant_at f r.header.directory.constants) ≡ constants_in by_place f r
  pub functions : walk (functions_start_in f r) (next_function_at f r.header.directory.code) ≡ (code_in f r >>= λ c. found c.functions)
  pub lines : debug_walk f r (λ t. t.lines) line ≡ (debug_in by_place f r >>= λ t. found t.lines)
  pub variables : debug_walk f r (λ t. t.variables) (variable (by_place r.header.directory.debug)) ≡ (debug_in by_place f r >>= λ t. found t.variables)
  pub function-names : debug_walk f r (λ t. t.functions) (function_name (by_place r.header.directory.debug)) ≡ (debug_in by_place f r >>= λ t. found t.functions)
  pub string-layouts : debug_walk f r (λ t. t.strings) string_layout ≡ (debug_in by_place f r >>= λ t. found t.strings)
  pub source-files : debug_walk f r (λ t. t.files) (source_file (by_place r.header.directory.debug)) ≡ (debug_in by_place f r >>= λ t. found t.files)
  -- each with the table of its values' names
  pub enumerations : debug_walk f r (λ t. t.enumerations) (enumeration_entry r.header.directory.debug.offset (by_place r.header.directory.debug))
      ≡ (debug_in by_place f r >>= λ t. found (map (entry_of r.header.directory.debug.offset) t.enumerations))
  pub values : (t : Tables Place) (i : ℕ) (e : Enumeration Place) → debug_in by_place f r ≡ found t → indexed no_entry t.enumerations i ≡ found e
      → let names = (entry_of r.header.directory.debug.offset e).values in
      driven (debug_step_at f r.header.directory.debug (name (by_place r.header.directory.debug))) names.count names ≡ found e.values

pub record Laws : Type 0 where
  pub walks : (f : List ℕ) (r : Container) → Walks f r
