-- 11, 12, 16 and 29 "exactly if" (document 01, "Wrong turns": "A line lookup that says 13 unread fails its 'exactly if', 12, 16 and 29 likewise"): over
-- tables that have been read, the lookup of an entry is refused exactly if its index is not below the count.
use Rattle.std.specs.Prelude.{ℕ, ◌+◌, ◌<◌, ◌≤◌, ◌≡◌, List, length}
use Rattle.reading.specs.Fault.{Fault}
use Rattle.reading.specs.Answer.{Got, refused, found, indexed}
use Rattle.format.specs.Faults.{invalid_constant_index, no_function, no_array, no_entry}
use Rattle.format.specs.Parts.{Place, Keep}
use Rattle.format.specs.Tasks.{TaskTable}
use Rattle.format.specs.Types.{FbType, Array, TypeTables}
use Rattle.format.specs.Constants.{Constant}
use Rattle.format.specs.Code.{Function, Code}
use Rattle.format.specs.Debug.{Enumeration, Tables}
use Rattle.format.specs.Lookups.{task_of, program_of, fb_type_of, field_of, array_of, byte_size, array_size_of, user_fb_of, constant_of, function_of, function_bytes_of, enumeration_of, enumeration_value_of}

-- looking up an index in a table of `count` entries: refused with `out` exactly if the index is not below the count
pub record Exactly {A : Type 0} (out : ℕ → Fault) (count : ℕ) (look : ℕ → Got A) : Type 0 where
  pub refuses : (i : ℕ) → count ≤ i → look i ≡ refused (out i)
  pub only : (i : ℕ) (f : Fault) → look i ≡ refused f → count ≤ i

abbrev pub always : Fault → ℕ → Fault
always f i = f

pub record Indexing : Type 0 where
  pub task : (t : TaskTable) → Exactly (always no_entry) (length t.tasks) (λ i. task_of i t)
  pub program : (t : TaskTable) → Exactly (always no_entry) (length t.programs) (λ i. program_of i t)
  pub fb-type : (t : TypeTables) → Exactly (always no_entry) (length t.fb_types) (λ i. fb_type_of i t)
  -- of an FB type that exists
  pub field : (t : TypeTables) (i : ℕ) (b : FbType) → indexed no_entry t.fb_types i ≡ found b → Exactly (always no_entry) (length b.fields) (λ j. field_of i j t)
  -- of one that does not
  pub no_field : (t : TypeTables) (i j : ℕ) → length t.fb_types ≤ i → field_of i j t ≡ refused no_entry
  pub array : (t : TypeTables) → Exactly (always no_array) (length t.arrays) (λ i. array_of i t)
  -- its size: refused in the same way; otherwise `byte_size`, whose only refusal is 17
  pub array-size : (t : TypeTables) (i : ℕ) → (length t.arrays ≤ i → array_size_of i t ≡ refused no_array) × ((a : Array) → array_of i t ≡ found a → array_size_of i t ≡ byte_size a)
  pub user-fb : (t : TypeTables) → Exactly (always no_entry) (length t.user_fbs) (λ i. user_fb_of i t)
  pub constant : (cs : List (Constant Place)) → Exactly invalid_constant_index (length cs) (λ i. constant_of i cs)
  pub function : (c : Code) → Exactly (always no_function) (length c.functions) (λ i. function_of i c)
  -- of a function that exists: exactly if its range is outside
  pub bytecode : (keep : Keep Place) (c : Code) (i : ℕ) (f : Function) → function_of i c ≡ found f
      → (length c.bytecode < f.offset + f.size → function_bytes_of keep i c ≡ refused no_function)
      × ((e : Fault) → function_bytes_of keep i c ≡ refused e → length c.bytecode < f.offset + f.size)
  -- of one that does not
  pub no-bytecode : (keep : Keep Place) (c : Code) (i : ℕ) → length c.functions ≤ i → function_bytes_of keep i c ≡ refused no_function
  pub line : (t : Tables Place) → Exactly (always no_entry) (length t.lines) (indexed no_entry t.lines)
  pub variable : (t : Tables Place) → Exactly (always no_entry) (length t.variables) (indexed no_entry t.variables)
  pub function-name : (t : Tables Place) → Exactly (always no_entry) (length t.functions) (indexed no_entry t.functions)
  pub string-layout : (t : Tables Place) → Exactly (always no_entry) (length t.strings) (indexed no_entry t.strings)
  pub source-file : (t : Tables Place) → Exactly (always no_entry) (length t.files) (indexed no_entry t.files)
  pub enumeration : (t : Tables Place) → Exactly (always no_entry) (length t.enumerations) (λ i. enumeration_of i t)
  -- of an enumeration that exists
  pub value : (t : Tables Place) (i : ℕ) (e : Enumeration Place) → indexed no_entry t.enumerations i ≡ found e → Exactly (always no_entry) (length e.values) (λ j. enumeration_value_of i j t)
  -- of one that does not
  pub no-value : (t : Tables Place) (i j : ℕ) → length t.enumerations ≤ i → enumeration_value_of i j t ≡ refused no_entry
