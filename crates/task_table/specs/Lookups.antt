-- What the section's reader, its lookups and its walks answer: over the section's bytes `s`, and over a file and the section's place `p` in it.
use Rattle.std.specs.Prelude.{ℕ, ◌+◌, ◌*◌, List}
use Rattle.reading.specs.Answer.{Got, found, ◌>>=◌, item_of}
use Rattle.reading.specs.Places.{Next}
use Rattle.reading.specs.declared.Table.{Table}
use Rattle.format.specs.Parts.{Place}
use Rattle.format.specs.Tasks.{Task, task, Program, program, task_table}
use Rattle.format.specs.Record.{TaskCounts, task_counts}
use Rattle.format.specs.Lookups.{read_at, task_of, program_of}
use Rattle.base.specs.Section.{step_in}

-- Sizes in bytes: the two counts with the shared globals size, a task, a program instance

abbrev pub task_table_header_size : ℕ
task_table_header_size = 6

abbrev pub task_entry_size : ℕ
task_entry_size = 32

abbrev pub program_instance_entry_size : ℕ
program_instance_entry_size = 16

-- what the section's reader answers
abbrev pub task_counts_inside : List ℕ → Got TaskCounts
task_counts_inside s = item_of (task_table s) >>= λ t. found (task_counts t)

-- the tasks start behind the header, and the programs behind the tasks
abbrev pub task_entries : TaskCounts → Table
task_entries c = record { at = task_table_header_size; count = c.tasks }

abbrev pub program_entries : TaskCounts → Table
program_entries c = record { at = task_table_header_size + task_entry_size * c.tasks; count = c.programs }

-- Over the section's bytes

abbrev pub task_inside : List ℕ → ℕ → Got Task
task_inside s i = item_of (task_table s) >>= task_of i

abbrev pub program_inside : List ℕ → ℕ → Got Program
program_inside s i = item_of (task_table s) >>= program_of i

abbrev pub tasks_of : List ℕ → Got Table
tasks_of s = item_of (task_table s) >>= λ t. found (task_entries (task_counts t))

abbrev pub programs_of : List ℕ → Got Table
programs_of s = item_of (task_table s) >>= λ t. found (program_entries (task_counts t))

-- Over a file and the section's place in it

abbrev pub task_at : List ℕ → Place → ℕ → Got Task
task_at f p i = read_at f p task_table >>= task_of i

abbrev pub program_at : List ℕ → Place → ℕ → Got Program
program_at f p i = read_at f p task_table >>= program_of i

abbrev pub tasks_at : List ℕ → Place → Got Table
tasks_at f p = read_at f p task_table >>= λ t. found (task_entries (task_counts t))

abbrev pub programs_at : List ℕ → Place → Got Table
programs_at f p = read_at f p task_table >>= λ t. found (program_entries (task_counts t))

abbrev pub next_task_at : List ℕ → Place → Table → Next Task
next_task_at f p t = step_in f p task t

abbrev pub next_program_at : List ℕ → Place → Table → Next Program
next_program_at f p t = step_in f p program t
