-- The task section (document 01, "Sections", Tasks).
use Rattle.std.specs.Prelude.{ℕ, List, leb}
use Rattle.reading.specs.Reader.{Reader, ◌>>=◌, ◌>>◌, give, check, bytes, u8, u16, u64, many}
use Rattle.format.specs.Faults.{invalid_task_type}

-- a task; interval and watchdog are in microseconds
pub record Task : Type 0 where
  pub id : ℕ
  pub priority : ℕ
  pub kind : ℕ
  pub flags : ℕ
  pub interval : ℕ
  pub single_variable : ℕ
  pub watchdog : ℕ
  pub input_image_offset : ℕ
  pub output_image_offset : ℕ
  pub reserved : List ℕ

-- entry 32; all its bytes are read before its type is checked, so a short entry gives 1
unfoldable pub task : Reader Task
task = do
  id ← u16
  priority ← u16
  kind ← u8
  flags ← u8
  interval ← u64
  single_variable ← u16
  watchdog ← u64
  input ← u16
  output ← u16
  reserved ← bytes 4
  check (leb kind 2) (invalid_task_type kind)
  give
      (record {
        id = id;
        priority = priority;
        kind = kind;
        flags = flags;
        interval = interval;
        single_variable = single_variable;
        watchdog = watchdog;
        input_image_offset = input;
        output_image_offset = output;
        reserved = reserved;
      })

pub record Program : Type 0 where
  pub instance : ℕ
  pub task : ℕ
  pub entry_function : ℕ
  pub variable_offset : ℕ
  pub variable_count : ℕ
  pub fb_instance_offset : ℕ
  pub fb_instance_count : ℕ
  pub init_function : ℕ

-- entry 16: eight 2-byte fields
unfoldable pub program : Reader Program
program = do
  instance ← u16
  task ← u16
  entry_function ← u16
  variable_offset ← u16
  variable_count ← u16
  fb_instance_offset ← u16
  fb_instance_count ← u16
  init_function ← u16
  give
      (record {
        instance = instance;
        task = task;
        entry_function = entry_function;
        variable_offset = variable_offset;
        variable_count = variable_count;
        fb_instance_offset = fb_instance_offset;
        fb_instance_count = fb_instance_count;
        init_function = init_function;
      })

pub record TaskTable : Type 0 where
  pub shared_globals : ℕ
  pub tasks : List Task
  pub programs : List Program

-- the section: counts of tasks and programs and the shared globals size, then the tasks, then the programs
unfoldable pub task_table : Reader TaskTable
task_table = do
  task_count ← u16
  program_count ← u16
  shared_globals ← u16
  tasks ← many task_count task
  programs ← many program_count program
  give (record { shared_globals = shared_globals; tasks = tasks; programs = programs })
