-- Each walk, from the law of its section's bytes: where the section reads, a step over the file is a step over its part of the file.
use Prim.Native.Nat.{ℕ, zero, suc}
use mathlib.Core.Path.{◌≡◌, refl, sym, ap, ◌∙◌}
use mathlib.Core.Bool.{Bool, true, false}
use mathlib.Core.List.{List, map}
use mathlib.Core.Option.{Option, none, some}
use native.Mathlib.Omega.{arith}
use lib.Dec.{leb}
use lib.ListN.{length}
use Rattle.reading.specs.Reader.{Reader}
use Rattle.reading.specs.Answer.{Got, refused, found, ◌>>=◌, ◌>>◌, need}
use Rattle.reading.specs.Places.{Next, ends, faulty, entry, step_of, on_next, driven, Gives, GivesFrom}
use Rattle.reading.specs.declared.Table.{Table}
use Rattle.format.specs.Faults.{too_long, no_array, no_debug}
use Rattle.format.specs.Parts.{limit, Place, cut, by_place}
use Rattle.format.specs.Tasks.{task_table}
use Rattle.format.specs.Types.{TypeTables, type_tables}
use Rattle.format.specs.Constants.{Constant, constant}
use Rattle.format.specs.Code.{code_of}
use Rattle.format.specs.Debug.{line, variable, function_name, string_layout, source_file, Tables}
use Rattle.format.specs.Record.{task_counts, TypeCounts, DebugCounts, Container}
use Rattle.format.specs.Lookups.{read_at, types_by, debug_by, debug_in}
use Rattle.format.proofs.Answers.{never, same-found}
use Rattle.task_table.specs.Lookups.{task_entries, program_entries, next_task_at, next_program_at}
use Rattle.task_table.proofs.Tables.{laws as task-laws}
use Rattle.type_entries.specs.Starts.{fb_types_start, arrays_start, user_fbs_start}
use Rattle.type_section.specs.Lookups.{next_fb_type_at, next_field_at, next_array_at, next_user_fb_at}
use Rattle.type_section.specs.Laws.{fb_types_driven}
use Rattle.type_section.proofs.Walking.{laws as type-laws}
use Rattle.constant_pool.specs.Lookups.{pool_at, next_constant_at}
use Rattle.constant_pool.proofs.Walks.{laws as constant-laws}
use Rattle.code_section.specs.Lookups.{next_function_at}
use Rattle.code_section.proofs.Entries.{laws as code_laws}
use Rattle.debug_entries.specs.Answers.{entry_of, enumeration_entry}
use Rattle.debug_tables.specs.SixTags.{DebugTables}
use Rattle.debug_section.specs.Lookups.{debug_tables_at, starts_at}
use Rattle.debug_section.proofs.Laws.{laws as section-laws}
use Rattle.debug_walks.specs.Steps.{debug_step_at}
use Rattle.debug_walks.specs.Laws as debug
use Rattle.debug_walks.proofs.Walks.{laws as debug-laws}
use Rattle.record.specs.Starts.{debug_starts_by}
use Rattle.record_walks.specs.Walks.{Walks, Laws}

-- steps that agree give the same entries
on_alike : {A : Type 0} (g h : Table → Got (List A)) → ((u : Table) → g u ≡ h u) → (x : Next A) → on_next x g ≡ on_next x h
on_alike g h k ends = refl
on_alike g h k (faulty e) = refl
on_alike g h k (entry a u) = rw (k u)

driven-alike : {A : Type 0} (g h : Table → Next A) → ((u : Table) → g u ≡ h u) → (n : ℕ) (t : Table) → driven g n t ≡ driven h n t
driven-alike g h k zero t = refl
driven-alike g h k (suc n) t = rw (k t) (on_alike (driven g n) (driven h n) (driven-alike g h k n) (h t))

-- a walk over a table of a section, `read` being what reading the section gives: x is that, or a refusal in its place
started : {A : Type 0} (read : Got A) (start : A → Table) {a : A} {t : Table} → read ≡ found a → (read >>= λ b. found (start b)) ≡ found t → start a ≡ t
started {A} read start h e = same-found (sym (ap (λ (y : Got A). y >>= λ b. found (start b)) h) ∙ e)

module _ {A B : Type 0} (read x : Got A) (is : (a : A) → x ≡ found a → read ≡ found a) (start : A → Table) where
  walk_of : (step : Table → Next B) (entries : A → List B) → ((a : A) → read ≡ found a → GivesFrom (read >>= λ b. found (start b)) step (entries a))
      → ((x >>= λ a. found (start a)) >>= λ t. driven step t.count t) ≡ (x >>= λ a. found (entries a))
  walk_of step entries law = go x refl
    where
      go : (y : Got A) → x ≡ y → ((y >>= λ a. found (start a)) >>= λ t. driven step t.count t) ≡ (y >>= λ a. found (entries a))
      go (refused e) k = refl
      go (found a) k =
          let h = is a k in
          let g = law a h in
          ap (λ (t : Table). driven step t.count t) (started read start h g.starts) ∙ g.gives g.first.count (omega arith)

module _ (f : List ℕ) (p : Place) where
  -- FB types, each with its fields
  fb-types-of : (x : Got TypeTables) → ((t : TypeTables) → x ≡ found t → read_at f p type_tables ≡ found t)
      → ((x >>= λ a. found (fb_types_start a)) >>= λ t. fb_types_driven (next_fb_type_at f p) (next_field_at f p) t.count t) ≡ (x >>= λ t. found t.fb_types)
  fb-types-of x is = go x refl
    where
      go : (y : Got TypeTables) → x ≡ y
          → ((y >>= λ a. found (fb_types_start a)) >>= λ t. fb_types_driven (next_fb_type_at f p) (next_field_at f p) t.count t) ≡ (y >>= λ t. found t.fb_types)
      go (refused d) k = refl
      go (found t) k =
          let h = is t k in
          let g = type-laws.fb_types_in f p t h in
          ap (λ (u : Table). fb_types_driven (next_fb_type_at f p) (next_field_at f p) u.count u) (started (read_at f p type_tables) fb_types_start h g.starts) ∙ g.gives g.first.count (omega arith)

  types-read : (o : Option TypeCounts) (t : TypeTables) → types_by f p o ≡ found t → read_at f p type_tables ≡ found t
  types-read none t h = go (leb (length f) limit) h
    where
      go : (y : Bool) → (need y too_long >> refused no_array) ≡ found t → read_at f p type_tables ≡ found t
      go true h = never h
      go false h = never h
  types-read (some c) t h = h

  constants-of : (x : Got (List (Constant Place))) → pool_at f p ≡ x
      → ((x >>= λ cs. found (record { at = 2; count = length cs })) >>= λ t. driven (next_constant_at f p) t.count t) ≡ x
  constants-of (refused e) k = refl
  constants-of (found cs) k =
      let t : Table = record { at = 2; count = length cs } in
      let w = constant-laws.walk f p t (ap (λ (x : Got (List (Constant Place))). x >>= λ cs. found (record { at = 2; count = length cs })) k) in
      driven-alike (next_constant_at f p) (step_of (constant (by_place p)) (cut f p)) w.steps (length cs) t ∙ w.gives ∙ k

  -- one of the debug tables
  debug-of : {A : Type 0} (table : DebugTables → Table) (entries : Tables Place → List A) (r : Reader A)
      → ((t : Tables Place) (w : debug.Walks f p t) → Gives (debug_step_at f p r) (table w.starts) (entries t))
      → (o : Option DebugCounts) → (debug_starts_by f p o >>= λ t. driven (debug_step_at f p r) (table t).count (table t)) ≡ (debug_by (by_place p) f p o >>= λ t. found (entries t))
  debug-of table entries r law none = go (leb (length f) limit)
    where
      go : (y : Bool)
          → ((need y too_long >> refused no_debug) >>= λ t. driven (debug_step_at f p r) (table t).count (table t)) ≡ ((need y too_long >> refused no_debug) >>= λ t. found (entries t))
      go true = refl
      go false = refl
  debug-of table entries r law (some c) = go (debug_tables_at f p) refl
    where
      go : (x : Got (Tables Place)) → debug_tables_at f p ≡ x → (starts_at f p >>= λ t. driven (debug_step_at f p r) (table t).count (table t)) ≡ (x >>= λ t. found (entries t))
      go (refused e) k = rw (section-laws.found_alike f p e k)
      go (found t) k = let w = debug-laws.walks f p t k in rw w.started (law t w (table w.starts).count (omega arith))

  debug-read : (o : Option DebugCounts) (t : Tables Place) → debug_by (by_place p) f p o ≡ found t → debug_tables_at f p ≡ found t
  debug-read none t h = go (leb (length f) limit) h
    where
      go : (y : Bool) → (need y too_long >> refused no_debug) ≡ found t → debug_tables_at f p ≡ found t
      go true h = never h
      go false h = never h
  debug-read (some c) t h = h

walks : (f : List ℕ) (r : Container) → Walks f r
unfolding debug_in
walks f r =
    let d = r.header.directory in
    let n = r.header.runtime.functions in
    record {
      tasks = walk_of (read_at f d.tasks task_table) (read_at f d.tasks task_table) (λ t e. e) (λ t. task_entries (task_counts t)) (next_task_at f d.tasks) (λ t. t.tasks) (task-laws.tasks_in f d.tasks);
      programs = walk_of (read_at f d.tasks task_table) (read_at f d.tasks task_table) (λ t e. e) (λ t. program_entries (task_counts t)) (next_program_at f d.tasks) (λ t. t.programs) (task-laws.programs_in f d.tasks);
      fb-types = fb-types-of f d.types (types_by f d.types r.types) (types-read f d.types r.types);
      arrays = walk_of (read_at f d.types type_tables) (types_by f d.types r.types) (types-read f d.types r.types) arrays_start (next_array_at f d.types) (λ t. t.arrays) (type-laws.arrays_in f d.types);
      user-fbs = walk_of (read_at f d.types type_tables) (types_by f d.types r.types) (types-read f d.types r.types) user_fbs_start (next_user_fb_at f d.types) (λ t. t.user_fbs) (type-laws.user_fbs_in f d.types);
      constants = constants-of f d.constants (pool_at f d.constants) refl;
      functions = walk_of (read_at f d.code (code_of n)) (read_at f d.code (code_of n)) (λ c e. e) (λ c. record { at = 0; count = n }) (next_function_at f d.code) (λ c. c.functions) (code_laws.walk_in f d.code n);
      lines = debug-of f d.debug (λ t. t.lines) (λ t. t.lines) line (λ t w. w.lines) r.debug;
      variables = debug-of f d.debug (λ t. t.variables) (λ t. t.variables) (variable (by_place d.debug)) (λ t w. w.variables) r.debug;
      function-names = debug-of f d.debug (λ t. t.functions) (λ t. t.functions) (function_name (by_place d.debug)) (λ t w. w.functions) r.debug;
      string-layouts = debug-of f d.debug (λ t. t.strings) (λ t. t.strings) string_layout (λ t w. w.strings) r.debug;
      source-files = debug-of f d.debug (λ t. t.files) (λ t. t.files) (source_file (by_place d.debug)) (λ t w. w.files) r.debug;
      enumerations = debug-of f d.debug (λ t. t.enumerations) (λ t. map (entry_of d.debug.offset) t.enumerations) (enumeration_entry d.debug.offset (by_place d.debug)) (λ t w. w.enumerations) r.debug;
      values = λ t i e h k. (debug-laws.walks f d.debug t (debug-read f d.debug r.debug t h)).values i e k (entry_of d.debug.offset e).values.count (omega arith);
    }

pub laws : Laws
laws = record { walks = walks }
