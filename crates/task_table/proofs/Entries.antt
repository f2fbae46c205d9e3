-- A task and a program instance at a place: what their bytes give, and how many they are.
use mathlib.Core.Path.{◌≡◌, refl, sym}
use mathlib.Core.Bool.{Bool, true, false}
use mathlib.Core.List.{List, [], ◌∷◌}
use Prim.Native.Nat.{ℕ, ◌+◌, ◌≤◌}
use native.Mathlib.Omega.{arith}
use lib.Dec.{leb}
use lib.ListN.{length, take, drop}
use Rattle.reading.specs.Fault.{Fault}
use Rattle.reading.specs.Numbers.{le_at, bytes_le, word_bytes}
use Rattle.reading.specs.Reader.{fault, got, ◌>>◌, give, check}
use Rattle.reading.specs.Answer.{refused, found, ◌>>◌ as ◌then◌, need}
use Rattle.reading.proofs.Le.{Bytes}
use Rattle.reading.proofs.Reading.{number_at, bytes-at}
use Rattle.format.specs.Faults.{invalid_task_type}
use Rattle.format.specs.Tasks.{Task, task, program}
use Rattle.format.proofs.Answers.{never}
use Rattle.base.specs.Small.{task_type_number, task_type_of}
use Rattle.base.specs.declared.task_type.TaskType.{TaskType}
use Rattle.base.specs.declared.task_type.TaskType.TheVariants as kind
use Rattle.base.proofs.Bytes.{words-at}
use Rattle.task_table.specs.Lookups.{task_entry_size, program_instance_entry_size}

-- Tasks

-- the fields of the task at a place
unfoldable pub fields_at : List ℕ → ℕ → Task
fields_at s at =
    record {
      id = le_at 2 s at;
      priority = le_at 2 s (at + 2);
      kind = le_at 1 s (at + 4);
      flags = le_at 1 s (at + 5);
      interval = le_at 8 s (at + 6);
      single_variable = le_at 2 s (at + 14);
      watchdog = le_at 8 s (at + 16);
      input_image_offset = le_at 2 s (at + 24);
      output_image_offset = le_at 2 s (at + 26);
      reserved = take 4 (drop (at + 28) s);
    }

module _ (s : List ℕ) (at : ℕ) (h : at + task_entry_size ≤ length s) where
  -- all its bytes are read before its type is looked at
  task-head : task (drop at s) ≡ (check (leb (le_at 1 s (at + 4)) 2) (invalid_task_type (le_at 1 s (at + 4))) >> give (fields_at s at)) (drop (at + task_entry_size) s)
  unfolding task fields_at
  task-head =
      rw (
        number_at 2 s at (at + 2) refl (omega arith),
        number_at 2 s (at + 2) (at + 4) (omega arith) (omega arith),
        number_at 1 s (at + 4) (at + 5) (omega arith) (omega arith),
        number_at 1 s (at + 5) (at + 6) (omega arith) (omega arith),
        number_at 8 s (at + 6) (at + 14) (omega arith) (omega arith),
        number_at 2 s (at + 14) (at + 16) (omega arith) (omega arith),
        number_at 8 s (at + 16) (at + 24) (omega arith) (omega arith),
        number_at 2 s (at + 24) (at + 26) (omega arith) (omega arith),
        number_at 2 s (at + 26) (at + 28) (omega arith) (omega arith),
        bytes-at 4 s (at + 28) (at + task_entry_size) (omega arith) h,
      )

  -- a type that is refused
  pub task-stop : (f : Fault) → refused f ≡ task_type_of (le_at 1 s (at + 4)) → task (drop at s) ≡ fault f
  task-stop f e = go (leb (le_at 1 s (at + 4)) 2) refl e
    where
      go : (b : Bool) → leb (le_at 1 s (at + 4)) 2 ≡ b → refused f ≡ (need b (invalid_task_type (le_at 1 s (at + 4))) then found (le_at 1 s (at + 4))) → task (drop at s) ≡ fault f
      go true i e = never e
      go false i e = let z : f ≡ invalid_task_type (le_at 1 s (at + 4)) = cc in rw (task-head, i, z)

  -- a type that is known
  pub task-whole : (k : TaskType) → task_type_number k ≡ le_at 1 s (at + 4) → task (drop at s) ≡ got (fields_at s at) (drop (at + task_entry_size) s)
  task-whole k e = rw (task-head, ← e) (known k)
    where
      known : (k : TaskType) → (check (leb (task_type_number k) 2) (invalid_task_type (task_type_number k)) >> give (fields_at s at)) (drop (at + task_entry_size) s) ≡ got (fields_at s at) (drop (at + task_entry_size) s)
      known kind.Cyclic = refl
      known kind.Event = refl
      known kind.Freewheeling = refl

  -- the reserved bytes, as the number that the code keeps
  pub reserved-at : Bytes s → bytes_le 4 (le_at 4 s (at + 28)) ≡ take 4 (drop (at + 28) s)
  unfolding word_bytes bytes_le
  reserved-at b = words-at s b (at + 28) (le_at 4 s (at + 28) ∷ []) (omega arith) (refl, tt)

-- the type that the code makes of a number
pub type-known : (v n : ℕ) → found n ≡ task_type_of v → n ≡ v
type-known v n e = go (leb v 2) e
  where
    go : (b : Bool) → found n ≡ (need b (invalid_task_type v) then found v) → n ≡ v
    go true e = cc
    go false e = never (sym e)

-- Program instances

pub program-whole : (s : List ℕ) (at : ℕ) → at + program_instance_entry_size ≤ length s → program (drop at s)
    ≡ got
    (record {
      instance = le_at 2 s at;
      task = le_at 2 s (at + 2);
      entry_function = le_at 2 s (at + 4);
      variable_offset = le_at 2 s (at + 6);
      variable_count = le_at 2 s (at + 8);
      fb_instance_offset = le_at 2 s (at + 10);
      fb_instance_count = le_at 2 s (at + 12);
      init_function = le_at 2 s (at + 14);
    })
    (drop (at + program_instance_entry_size) s)
unfolding program
program-whole s at h =
    rw (
      number_at 2 s at (at + 2) refl (omega arith),
      number_at 2 s (at + 2) (at + 4) (omega arith) (omega arith),
      number_at 2 s (at + 4) (at + 6) (omega arith) (omega arith),
      number_at 2 s (at + 6) (at + 8) (omega arith) (omega arith),
      number_at 2 s (at + 8) (at + 10) (omega arith) (omega arith),
      number_at 2 s (at + 10) (at + 12) (omega arith) (omega arith),
      number_at 2 s (at + 12) (at + 14) (omega arith) (omega arith),
      number_at 2 s (at + 14) (at + program_instance_entry_size) (omega arith) h,
    )
