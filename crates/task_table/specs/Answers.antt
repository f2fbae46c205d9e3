-- What the code's entries and answers mean.
use Rattle.reading.specs.Numbers.{bytes_le}
use Rattle.format.specs.Tasks.{Task, Program}
use Rattle.format.specs.Record as kept
use Rattle.base.specs.Small.{task_type_number}
use Rattle.task_table.specs.declared.TaskEntry.{TaskEntry}
use Rattle.task_table.specs.declared.ProgramInstanceEntry.{ProgramInstanceEntry}
use Rattle.task_table.specs.declared.TaskCounts.{TaskCounts}

-- Tasks

abbrev pub task_in : TaskEntry → Task
task_in t =
    record {
      id = t.task_id.0;
      priority = t.priority;
      kind = task_type_number t.task_type;
      flags = t.flags;
      interval = t.interval_us;
      single_variable = t.single_var_index.0;
      watchdog = t.watchdog_us;
      input_image_offset = t.input_image_offset;
      output_image_offset = t.output_image_offset;
      reserved = bytes_le 4 t.reserved;
    }

-- Program instances

abbrev pub program_in : ProgramInstanceEntry → Program
program_in p =
    record {
      instance = p.instance_id.0;
      task = p.task_id.0;
      entry_function = p.entry_function_id.0;
      variable_offset = p.var_table_offset;
      variable_count = p.var_table_count;
      fb_instance_offset = p.fb_instance_offset;
      fb_instance_count = p.fb_instance_count;
      init_function = p.init_function_id.0;
    }

-- The section's counts

abbrev pub task_counts_in : TaskCounts → kept.TaskCounts
task_counts_in c = record { shared_globals = c.shared_globals_size; tasks = c.tasks; programs = c.programs }
