-- A walk over the tasks or the programs of a section that reads, step by step from its start, gives them all in their order: over the section's
-- bytes, and by the steps over a file and the section's place in it.
use Rattle.std.specs.Prelude.{ℕ, ◌≡◌, List, length}
use Rattle.reading.specs.Reader.{got}
use Rattle.reading.specs.Answer.{found}
use Rattle.reading.specs.Places.{GivesFrom, walked}
use Rattle.format.specs.Parts.{Place}
use Rattle.format.specs.Tasks.{task, program, TaskTable, task_table}
use Rattle.format.specs.Record.{task_counts}
use Rattle.format.specs.Lookups.{read_at}
use Rattle.task_table.specs.Lookups.{task_entries, program_entries, tasks_at, programs_at, next_task_at, next_program_at}

pub record Laws : Type 0 where
  pub tasks : (s : List ℕ) (t : TaskTable) (rest : List ℕ) → task_table s ≡ got t rest
      → walked (length t.tasks) task s (task_entries (task_counts t)) ≡ found t.tasks
  pub programs : (s : List ℕ) (t : TaskTable) (rest : List ℕ) → task_table s ≡ got t rest
      → walked (length t.programs) program s (program_entries (task_counts t)) ≡ found t.programs
  pub tasks_in : (f : List ℕ) (p : Place) (t : TaskTable) → read_at f p task_table ≡ found t → GivesFrom (tasks_at f p) (next_task_at f p) t.tasks
  pub programs_in : (f : List ℕ) (p : Place) (t : TaskTable) → read_at f p task_table ≡ found t → GivesFrom (programs_at f p) (next_program_at f p) t.programs
