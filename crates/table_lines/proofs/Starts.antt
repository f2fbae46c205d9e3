-- The text of each table, by where its walk starts.
use Prim.Native.Nat.{ℕ, zero, suc, ◌+◌, ◌≤◌}
use mathlib.Core.Path.{◌≡◌, refl, sym, ap, subst, ◌∙◌}
use mathlib.Core.Bool.{Bool, true, false, cond}
use mathlib.Core.List.{List, [], ◌∷◌, ◌++◌, map}
use native.Mathlib.Omega.{arith}
use mathlib.Core.Option.{Option, none, some}
use lib.Dec.{eqb, leb}
use lib.ListN.{length, drop}
use borrow.Author.Tests.{eqb-true, le-leb}
use Rattle.reading.specs.Reader.{Read, fault, got, Reader, many}
use Rattle.reading.specs.Fault.{Fault}
use Rattle.reading.specs.Answer.{Got, refused, found, ◌>>=◌, ◌>>◌, need, item_of}
use Rattle.reading.specs.Places.{Next, ends, faulty, entry, next_of, step_of, on_next, walked}
use Rattle.reading.specs.declared.Table.{Table}
use Rattle.reading.proofs.Parts.{length_part}
use Rattle.reading.proofs.Reading.{both}
use Rattle.format.specs.Faults.{too_long, no_array, no_debug}
use Rattle.format.specs.Parts.{limit, Place, cut, by_bytes, by_place}
use Rattle.format.specs.Tasks.{task, program, task_table}
use Rattle.format.specs.Types.{Field, field, FbType, fb_type, array, user_fb, TypeTables, type_tables}
use Rattle.format.specs.Constants.{Kept, number, string, Constant, on_kept, on_constant, constant, constants}
use Rattle.format.specs.Code.{Code, function, code_of}
use Rattle.format.specs.Debug.{line, Tables}
use Rattle.format.specs.Record.{task_counts, TypeCounts, DebugCounts, Container}
use Rattle.format.specs.Lookups.{read_at, types_by, constants_in, debug_by, debug_in}
use Rattle.format.proofs.Answers.{never, same-found, steps, item-got}
use Rattle.format.proofs.PlacesHold.{constants-at}
use Rattle.base.specs.Section.{section_part, bytes_of, step_by}
use Rattle.base.proofs.Sections.{section-found}
use Rattle.base.proofs.FileLookups.{step_count}
use Rattle.task_table.specs.Lookups.{task_entries, program_entries, next_task_at, next_program_at}
use Rattle.task_table.proofs.Tables as task-table
use Rattle.type_entries.specs.Starts.{fb_types_start, arrays_start, user_fbs_start, fields_start}
use Rattle.type_section.specs.Lookups.{FbTypeEntry, with_fields, fb_type_step_of, fb_types_at, next_fb_type_at, next_array_at, next_user_fb_at}
use Rattle.type_section.specs.Laws.{on_fb_type, fb_types_walked}
use Rattle.type_section.proofs.Walking as type-section
use Rattle.constant_pool.specs.Lookups.{pool_at, next_constant_at}
use Rattle.constant_pool.proofs.Entries.{StringEnds, constant-ends}
use Rattle.constant_pool.proofs.Walks as constant-pool
use Rattle.code_section.specs.Lookups.{next_function_at}
use Rattle.code_section.proofs.Entries as code-section
use Rattle.debug_section.specs.Lookups.{debug_tables_at, starts_at}
use Rattle.debug_section.proofs.Parts.{tables-refused, tables-stand}
use Rattle.debug_tables.specs.SixTags.{DebugTables}
use Rattle.debug_walks.specs.Steps.{debug_step_at}
use Rattle.debug_walks.proofs.Walks as debug-walks
use Rattle.record.specs.Starts.{tasks_start_in, programs_start_in, fb_types_start_in, arrays_start_in, user_fbs_start_in, constants_start_in, functions_start_in, debug_starts_by}
use Rattle.entry_lines.specs.Lines.{task_line, program_line, fb_type_line, field_line, array_line, user_fb_line, constant_line, function_line, line_line}
use Rattle.listing.specs.Listing.{each, indexed_from, fb_type_lines}
use Rattle.table_lines.specs.Walks.{on_step, walk_text, entries_text, lines_start_in, fb_type_text}
use Rattle.table_lines.specs.Tables.{text_of, tasks_text, programs_text, fb_types_text, arrays_text, user_fbs_text, constants_text, functions_text, lines_text}
use Rattle.table_lines.proofs.Texts.{each-indexed, driven-text, lines-same, read-there, start-text}

-- the directory of a code section that reads
functions-read : (n : ℕ) (s : List ℕ) (c : Code) → item_of (code_of n s) ≡ found c → item_of (many n function s) ≡ found c.functions
unfolding code_of
functions-read n s c e =
    let k = item-got (code_of n s) c e in
    let m = both (many n function s) k.1 in
    let z : m.item ≡ c.functions = cc m.second in
    ap item_of m.first ∙ ap found z

-- where a section is absent there is no text; where it is not, its own law holds
absent-text : {A B C : Type 0} (z : Bool) (d e : Fault) (k : A → Got B) (walk : B → List ℕ) (lines : C → List ℕ)
    → text_of ((need z d >> refused e) >>= k) walk ≡ text_of (need z d >> refused e) lines
absent-text true d e k walk lines = refl
absent-text false d e k walk lines = refl

module _ (f : List ℕ) (p : Place) (start : TypeTables → Table) (walk : Table → List ℕ) (lines : TypeTables → List ℕ) where
  types-by : text_of (read_at f p type_tables >>= λ t. found (start t)) walk ≡ text_of (read_at f p type_tables) lines
      → (x : Option TypeCounts) → text_of (types_by f p x >>= λ t. found (start t)) walk ≡ text_of (types_by f p x) lines
  types-by h none = absent-text (leb (length f) limit) too_long no_array (λ t. found (start t)) walk lines
  types-by h (some c) = h

module _ (f : List ℕ) (r : Container) where
  pub tasks-start : text_of (tasks_start_in f r) (entries_text (next_task_at f r.header.directory.tasks) (λ i. task_line)) ≡ tasks_text f r
  tasks-start =
      let p = r.header.directory.tasks in
      start-text f p task_table task (λ t. task_entries (task_counts t)) (λ t. t.tasks) (λ i. task_line) _ (λ t. each-indexed 0 task_line t.tasks)
      (λ t e h. let k = item-got (task_table (cut f p)) t h in (task-table.laws).tasks (cut f p) t k.0 k.1)

  pub programs-start : text_of (programs_start_in f r) (entries_text (next_program_at f r.header.directory.tasks) (λ i. program_line)) ≡ programs_text f r
  programs-start =
      let p = r.header.directory.tasks in
      start-text f p task_table program (λ t. program_entries (task_counts t)) (λ t. t.programs) (λ i. program_line) _ (λ t. each-indexed 0 program_line t.programs)
      (λ t e h. let k = item-got (task_table (cut f p)) t h in (task-table.laws).programs (cut f p) t k.0 k.1)

  pub arrays-start : text_of (arrays_start_in f r) (entries_text (next_array_at f r.header.directory.types) array_line) ≡ arrays_text f r
  arrays-start =
      let p = r.header.directory.types in
      types-by f p arrays_start (entries_text (next_array_at f p) array_line) _
      (start-text f p type_tables array arrays_start (λ t. t.arrays) array_line _ (λ t. refl) (λ t e h. (type-section.laws).arrays (cut f p) t h))
      r.types

  pub user-fbs-start : text_of (user_fbs_start_in f r) (entries_text (next_user_fb_at f r.header.directory.types) (λ i. user_fb_line)) ≡ user_fbs_text f r
  user-fbs-start =
      let p = r.header.directory.types in
      types-by f p user_fbs_start (entries_text (next_user_fb_at f p) (λ i. user_fb_line)) _
      (start-text f p type_tables user_fb user_fbs_start (λ t. t.user_fbs) (λ i. user_fb_line) _ (λ t. each-indexed 0 user_fb_line t.user_fbs) (λ t e h. (type-section.laws).user_fbs (cut f p) t h))
      r.types

  pub functions-start : text_of (functions_start_in f r) (entries_text (next_function_at f r.header.directory.code) (λ i. function_line)) ≡ functions_text f r
  functions-start =
      let p = r.header.directory.code in
      let n = r.header.runtime.functions in
      start-text f p (code_of n) function (λ c. record { at = 0; count = n }) (λ c. c.functions) (λ i. function_line) _ (λ c. each-indexed 0 function_line c.functions)
      (λ c e h. (code-section.laws).walk (cut f p) n ∙ functions-read n (cut f p) c h)

-- Lines

abbrev lines_lines : Tables Place → List ℕ
lines_lines t = each line_line t.lines

abbrev walk_of_lines : List ℕ → Place → Table → List ℕ
walk_of_lines f p = entries_text (debug_step_at f p line) (λ i. line_line)

module _ (f : List ℕ) (p : Place) where
  lines-there : text_of (starts_at f p >>= λ t. found t.lines) (walk_of_lines f p) ≡ text_of (debug_tables_at f p) lines_lines
  lines-there = go (starts_at f p) refl
    where
      go : (x : Got DebugTables) → starts_at f p ≡ x → text_of (x >>= λ t. found t.lines) (walk_of_lines f p) ≡ text_of (debug_tables_at f p) lines_lines
      go (refused g) e = ap (λ x. text_of x lines_lines) (tables-refused f p (sym e))
      go (found u) e =
          let k = tables-stand f p (sym e) in
          let w = (debug-walks.laws).walks f p k.tables k.reads in
          let z : w.starts ≡ u = same-found (sym w.started ∙ e) in
          let t = w.starts.lines in
          ap (λ (v : DebugTables). walk_of_lines f p v.lines) (sym z)
          ∙ driven-text (debug_step_at f p line) (λ i. line_line) 0 t.count t k.tables.lines (w.lines t.count (omega arith))
          ∙ sym (each-indexed 0 line_line k.tables.lines)
          ∙ ap (λ x. text_of x lines_lines) (sym k.reads)

  lines-by : (x : Option DebugCounts) → text_of (debug_starts_by f p x >>= λ t. found t.lines) (walk_of_lines f p) ≡ text_of (debug_by (by_place p) f p x) lines_lines
  lines-by none = absent-text (leb (length f) limit) too_long no_debug (λ t. found t.lines) (walk_of_lines f p) lines_lines
  lines-by (some c) = lines-there

pub lines_start : (f : List ℕ) (r : Container) → text_of (lines_start_in f r) (walk_of_lines f r.header.directory.debug) ≡ lines_text f r
unfolding debug_in
lines_start f r = lines-by f r.header.directory.debug r.debug

-- Constants: the walk has a string by its place, and the code has its bytes if it lies in the file, as it does

abbrev placed_line : List ℕ → ℕ → Constant Place → List ℕ
placed_line f i c = constant_line i (on_constant (cut f) c)

-- a constant's line by the code
abbrev pub line_of_bytes : List ℕ → ℕ → Constant Place → List ℕ
line_of_bytes f i c = constant_line i (on_constant (bytes_of f) c)

module _ (f : List ℕ) where
  placed-lines : (i : ℕ) (cs : List (Constant Place)) → indexed_from i constant_line (map (on_constant (cut f)) cs) ≡ indexed_from i (placed_line f) cs
  unfolding indexed_from
  placed-lines i [] = refl
  placed-lines i (c ∷ cs) = rw (placed-lines (suc i) cs)

  text-placed : (x : Got (List (Constant Place))) → text_of (x >>= λ cs. found (map (on_constant (cut f)) cs)) (indexed_from 0 constant_line) ≡ text_of x (indexed_from 0 (placed_line f))
  text-placed (refused e) = refl
  text-placed (found cs) = placed-lines 0 cs

  -- a string that a step gives ends in the section, and so in the file
  step-ends : (p : Place) (s : List ℕ) → length s ≤ p.offset + p.size → (t u : Table) (c : Constant Place) → step_of (constant (by_place p)) s t ≡ entry c u → StringEnds (p.offset + p.size) c.kept
  unfolding step_of
  step-ends p s m t u c e = go (eqb t.count 0) (constant (by_place p) (drop t.at s)) refl e
    where
      go : (z : Bool) (x : Read (Constant Place)) → constant (by_place p) (drop t.at s) ≡ x → cond z ends (next_of s t x) ≡ entry c u → StringEnds (p.offset + p.size) c.kept
      go true x d e = absurd (let z : ◌≡◌ {A = ℕ} 0 1 = cc in omega arith)
      go false (fault g) d e = absurd (let z : ◌≡◌ {A = ℕ} 0 1 = cc in omega arith)
      go false (got a rest) d e = let z : a ≡ c = cc in subst (λ (v : Constant Place). StringEnds (p.offset + p.size) v.kept) z (constant-ends p s m t.at a rest d)

  kept-placed : (m : ℕ) → m ≤ length f → (k : Kept Place) → StringEnds m k → on_kept (cut f) k ≡ on_kept (bytes_of f) k
  unfolding bytes_of
  kept-placed m l (number b) h = refl
  kept-placed m l (string p) h = ap string (sym (rw (le-leb (p.offset + p.size) (length f) (omega arith)) refl))

  line-placed : (p : Place) (t u : Table) (c : Constant Place) → next_constant_at f p t ≡ entry c u → (i : ℕ) → placed_line f i c ≡ line_of_bytes f i c
  line-placed p t u c e i = go (section_part f p) refl e
    where
      go : (x : Got Place) → section_part f p ≡ x → step_by f x (constant (by_place p)) t ≡ entry c u → placed_line f i c ≡ line_of_bytes f i c
      go (refused g) h e = absurd (let z : ◌≡◌ {A = ℕ} 0 1 = cc in omega arith)
      go (found q) h e =
          let k = section-found f p (constants by_bytes) q (sym h) in
          let l = ap (λ (y : Place). length (cut f y)) k.same ∙ length_part f p.offset p.size k.inside.within in
          let ends = step-ends p (cut f q) (omega (arith, l)) t u c e in
          ap (λ (x : Kept (List ℕ)). constant_line i (record { kind = c.kind; kept = x })) (kept-placed (p.offset + p.size) k.inside.within c.kept ends)

  walk-placed : (p : Place) (x : Got Table) → text_of x (entries_text (next_constant_at f p) (line_of_bytes f)) ≡ text_of x (entries_text (next_constant_at f p) (placed_line f))
  walk-placed p (refused e) = refl
  walk-placed p (found t) = sym (lines-same (next_constant_at f p) (placed_line f) (line_of_bytes f) (line-placed p) 0 t.count t)

  module _ (r : Container) where
    by-place : constants_text f r ≡ text_of (constants_in by_place f r) (indexed_from 0 (placed_line f))
    by-place =
        let p = r.header.directory.constants in
        ap (λ (x : Got (List (Constant (List ℕ)))). text_of x (indexed_from 0 constant_line)) (constants-at f p) ∙ text-placed (pool_at f p)

    pub constants-start : text_of (constants_start_in f r) (entries_text (next_constant_at f r.header.directory.constants) (line_of_bytes f)) ≡ constants_text f r
    constants-start =
        let p = r.header.directory.constants in
        walk-placed p (constants_start_in f r)
        ∙ start-text f p (constants (by_place p)) (constant (by_place p)) (λ cs. record { at = 2; count = length cs }) (λ cs. cs) (placed_line f) (indexed_from 0 (placed_line f)) (λ cs. refl)
        (λ cs e h. ((constant-pool.laws).walk f p (record { at = 2; count = length cs }) (ap (λ x. x >>= λ ds. found (record { at = 2; count = length ds })) e)).gives ∙ e)
        ∙ sym by-place

-- FB types

module _ {A : Type 0} (r : Reader A) (s : List ℕ) where
  ends_of : (t : Table) → step_of r s t ≡ ends → t.count ≡ 0
  unfolding step_of
  ends_of t e = go (eqb t.count 0) refl (r (drop t.at s)) e
    where
      go : (z : Bool) → eqb t.count 0 ≡ z → (x : Read A) → cond z ends (next_of s t x) ≡ ends → t.count ≡ 0
      go true h x e = eqb-true t.count 0 h
      go false h (fault f) e = absurd (let z : ◌≡◌ {A = ℕ} 0 1 = cc in omega arith)
      go false h (got a rest) e = absurd (let z : ◌≡◌ {A = ℕ} 0 1 = cc in omega arith)

  -- a walk over a table gives as many entries as the table has
  walked-length : (n : ℕ) (t : Table) (xs : List A) → t.count ≡ n → walked n r s t ≡ found xs → length xs ≡ n
  walked-length zero t xs c e = let z : [] ≡ xs = same-found e in ap length (sym z)
  walked-length (suc n) t xs c e = go (walked-length n) (step_of r s t) refl e
    where
      go : ((u : Table) (ys : List A) → u.count ≡ n → walked n r s u ≡ found ys → length ys ≡ n) → (x : Next A) → step_of r s t ≡ x → on_next x (walked n r s) ≡ found xs
          → length xs ≡ suc n
      go rec ends h e = absurd (omega (arith, ends_of t h))
      go rec (faulty f) h e = never e
      go rec (entry a u) h e =
          let k = steps (walked n r s u) e in
          let z : a ∷ k.item ≡ xs = same-found k.second in
          ap length (sym z) ∙ ap suc (rec u k.item (omega (arith, step_count r s t h)) k.first)

-- an FB type's line and its fields', by the steps over its fields
abbrev fb_type_by : (Table → Next Field) → ℕ → FbTypeEntry → List ℕ
fb_type_by step i b = fb_type_line b.head ++ entries_text step (λ j. field_line) b.fields

-- the walk over the FB types, by the steps over both
abbrev fb_types_by : (Table → Next FbTypeEntry) → (Table → Next Field) → ℕ → ℕ → Table → List ℕ
fb_types_by step fields i n t = walk_text step (fb_type_by fields) i n t

fb-types-text : (s : List ℕ) (i n : ℕ) (t : Table) (bs : List FbType) → fb_types_walked n s t ≡ found bs → fb_types_by (fb_type_step_of s) (step_of field s) i n t ≡ each fb_type_lines bs
unfolding walk_text each
fb-types-text s i zero t bs e = let z : [] ≡ bs = same-found e in rw (← z)
fb-types-text s i (suc n) t bs e = go (fb-types-text s (suc i) n) (step_of fb_type s t) e
  where
    go : ((u : Table) (cs : List FbType) → fb_types_walked n s u ≡ found cs → fb_types_by (fb_type_step_of s) (step_of field s) (suc i) n u ≡ each fb_type_lines cs) → (x : Next FbType)
        → on_fb_type (step_of field s) (with_fields t x) (fb_types_walked n s) ≡ found bs
        → on_step (with_fields t x) (λ b u. fb_type_by (step_of field s) i b ++ fb_types_by (fb_type_step_of s) (step_of field s) (suc i) n u) ≡ each fb_type_lines bs
    go rec ends e = let z : [] ≡ bs = same-found e in rw (← z)
    go rec (faulty f) e = never e
    go rec (entry b u) e =
        let fields = fields_start t.at b in
        let k = steps (walked fields.count field s fields) e in
        let m = steps (fb_types_walked n s u) k.second in
        let z : record { id = b.id; fields = k.item } ∷ m.item ≡ bs = same-found m.second in
        let l = walked-length field s fields.count fields k.item refl k.first in
        let w = driven-text (step_of field s) (λ j. field_line) 0 fields.count fields k.item k.first ∙ sym (each-indexed 0 field_line k.item) in
        rw (← z, rec u m.item m.first, w, l)

abbrev walk_of_fb_types : List ℕ → Place → Table → List ℕ
walk_of_fb_types f p = entries_text (next_fb_type_at f p) (λ i. fb_type_text f p)

module _ (f : List ℕ) (p : Place) where
  fb-types-there : text_of (fb_types_at f p) (walk_of_fb_types f p) ≡ text_of (read_at f p type_tables) (λ t. each fb_type_lines t.fb_types)
  fb-types-there = go (read_at f p type_tables) refl
    where
      go : (x : Got TypeTables) → read_at f p type_tables ≡ x
          → text_of (x >>= λ t. found (fb_types_start t)) (walk_of_fb_types f p) ≡ text_of x (λ t. each fb_type_lines t.fb_types)
      go (refused g) e = refl
      go (found a) e =
          let h = read-there f p type_tables a e in
          let t = fb_types_start a in
          ap (λ (x : Got Place). fb_types_by (λ u. with_fields u (step_by f x fb_type u)) (step_by f x field) 0 t.count t) h.part
          ∙ fb-types-text (cut f p) 0 t.count t a.fb_types ((type-section.laws).fb_types (cut f p) a h.item)

pub fb-types-start : (f : List ℕ) (r : Container) → text_of (fb_types_start_in f r) (walk_of_fb_types f r.header.directory.types) ≡ fb_types_text f r
fb-types-start f r =
    let p = r.header.directory.types in types-by f p fb_types_start (walk_of_fb_types f p) _ (fb-types-there f p) r.types
