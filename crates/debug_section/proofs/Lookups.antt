-- Lookups over the file, from those over the section's bytes.
use mathlib.Core.Path.{◌≡◌, refl, sym, ap, ◌∙◌}
use mathlib.Core.List.{List, [], ◌∷◌, map}
use Prim.Native.Nat.{ℕ, zero, suc}
use lib.ListN.{length}
use Rattle.std.specs.Prelude.{Option, Some, None, Result, Ok, Err}
use Rattle.reading.specs.Fault.{Fault}
use Rattle.reading.specs.Reader.{Reader}
use Rattle.reading.specs.Answer.{Got, refused, found, ◌>>=◌, indexed, item_of}
use Rattle.reading.specs.Places.{Holds}
use Rattle.reading.specs.declared.Table.{Table}
use Rattle.format.specs.Faults.{no_entry}
use Rattle.format.specs.Parts.{Place, cut, by_place}
use Rattle.format.specs.Debug.{Line, Variable, variable, FunctionName, function_name, StringLayout, string_layout, SourceFile, source_file, Enumeration, enumeration, Tables}
use Rattle.format.specs.Lookups.{enumeration_of}
use Rattle.format.proofs.Answers.{renamed}
use Rattle.format.proofs.PlacesHold.{indexed-map}
use Rattle.base.specs.Answers.{got_from, found_by}
use Rattle.base.specs.Error.{refusal_number}
use Rattle.base.specs.Picked.{picked}
use Rattle.base.specs.Section.{part_in}
use Rattle.base.specs.declared.section.Part.{Part}
use Rattle.base.proofs.Picked.{picked_is}
use Rattle.line_map.specs.Lookups.{in_lines}
use Rattle.debug_text.specs.Answers.{debug_fault_of}
use Rattle.debug_text.specs.declared.DebugFault.{DebugFault}
use Rattle.debug_text.specs.declared.DebugFault.TheVariants as debug_fault
use Rattle.reading.proofs.Made.{holds-made}
use Rattle.debug_entries.specs.Answers.{EnumerationWithValues, with_values, entry_of, enumeration_entry}
use Rattle.debug_entries.specs.Lookups.{picked_value}
use Rattle.debug_tables.specs.Laws.{Standing}
use Rattle.debug_tables.specs.SixTags.{DebugTables}
use Rattle.debug_section.specs.Answers.{answered}
use Rattle.debug_section.specs.Lookups.{debug_tables_at, opened_at, enumeration_at}
use Rattle.debug_section.proofs.Parts.{opened-refused, opened_found, tables-refused, tables-stand}

-- a table that reads gives an entry or 29, and no other refusal
no-fault : (s : List ℕ) (e : DebugFault) → debug_fault_of s e ≡ no_entry → ⊥
no-fault s debug_fault.Short h = let z : ◌≡◌ {A = ℕ} 1 29 = ap refusal_number h in cc
no-fault s (debug_fault.BadText p) h = let z : ◌≡◌ {A = ℕ} 0 29 = ap refusal_number h in cc

refused-by : {A : Type 0} {e d : Fault} → ◌≡◌ {A = Got A} (refused e) (refused d) → e ≡ d
refused-by h = cc

abbrev NoFault : {A : Type 0} → List ℕ → Got A → Type 0
NoFault s x = (e : DebugFault) → refused (debug_fault_of s e) ≡ x → ⊥

indexed-fault : {A : Type 0} (s : List ℕ) (xs : List A) (k : ℕ) → NoFault s (indexed no_entry xs k)
indexed-fault s [] k e h = no-fault s e (refused-by h)
indexed-fault s (x ∷ xs) zero e h = absurd (let z : ◌≡◌ {A = ℕ} 0 1 = cc in cc)
indexed-fault s (x ∷ xs) (suc k) e h = indexed-fault s xs k e h

then-fault : {A B : Type 0} (s : List ℕ) (xs : List A) (k : ℕ) (ys : A → List B) (j : ℕ) → NoFault s (indexed no_entry xs k >>= λ a. indexed no_entry (ys a) j)
then-fault s [] k ys j e h = no-fault s e (refused-by h)
then-fault s (x ∷ xs) zero ys j e h = indexed-fault s (ys x) j e h
then-fault s (x ∷ xs) (suc k) ys j e h = then-fault s xs k ys j e h

answered-is : {A T : Type 0} (view : T → A) (s : List ℕ) (x : Result (Option T) DebugFault) (y : Got A) → NoFault s y → found_by (debug_fault_of s) view no_entry x ≡ y → got_from view (answered x) ≡ y
answered-is view s (Err e) y n h = absurd (n e h)
answered-is view s (Ok None) y n h = h
answered-is view s (Ok (Some x)) y n h = h

module _ (f : List ℕ) (p : Place) where
  pub look_err : {A : Type 0} (go : Tables Place → Got A) (e : Fault) → refused e ≡ opened_at f p → refused e ≡ (debug_tables_at f p >>= go)
  look_err go e k = ap (λ (x : Got (Tables Place)). x >>= go) (tables-refused f p (opened-refused f p k))

  pub enumeration_err : (n : ℕ) (e : Fault) → refused e ≡ opened_at f p → refused e ≡ enumeration_at f p n
  enumeration_err n e k = ap (λ (x : Got (Tables Place)). (x >>= enumeration_of n) >>= λ h. found (with_values p.offset h)) (tables-refused f p (opened-refused f p k))

  -- an enumeration with the table of its values' names
  entries-as : (n : ℕ) (y : Got (Tables Place)) → (y >>= λ t. indexed no_entry (map (entry_of p.offset) t.enumerations) n) ≡ ((y >>= enumeration_of n) >>= λ h. found (with_values p.offset h))
  entries-as n (refused e) = refl
  entries-as n (found t) =
      indexed-map (entry_of p.offset) no_entry t.enumerations n
      ∙ sym (renamed (λ e. record { named = e.named; value_count = length e.values }) (λ h. found (with_values p.offset h)) (λ e. found (entry_of p.offset e)) (λ e. refl) (indexed no_entry t.enumerations n))

  module _ (c : Place × List ℕ) (u : DebugTables) (k : found (c, u) ≡ opened_at f p) where
    -- in the lines
    pub lines_ok : {A : Type 0} (pick : List Line → Got A) (x : Got A) → x ≡ in_lines c.1 u.lines.at u.lines.count pick → x ≡ (debug_tables_at f p >>= λ t. pick t.lines)
    lines_ok pick x h =
        let o = opened_found f p k in
        let g = tables-stand f p o.starts in
        h
        ∙ ap (λ (y : Place × List ℕ). in_lines y.1 u.lines.at u.lines.count pick) o.same
        ∙ ap (λ z. item_of z >>= pick) g.stand.lines.reads
        ∙ sym (ap (λ (y : Got (Tables Place)). y >>= λ t. pick t.lines) g.reads)

    -- in a table of entries
    module _ {A : Type 0} (r : Place → Reader A) (tab : DebugTables → Table) (xs : Tables Place → List A)
        (holds : (t : Tables Place) → Standing (by_place p) (cut f p) u t → Holds (r p) (cut f p) (tab u) (xs t)) (n : ℕ) where
      abbrev picks : Got A
      picks = picked (r c.0) c.1 (tab u).at (tab u).count n

      picked-at : picks ≡ indexed no_entry (xs (tables-stand f p (opened_found f p k).starts).tables) n
      picked-at =
          let o = opened_found f p k in
          let g = tables-stand f p o.starts in
          let h = holds g.tables g.stand in
          ap (λ (y : Place × List ℕ). picked (r y.0) y.1 (tab u).at (tab u).count n) o.same ∙ picked_is (r p) (cut f p) (tab u).at (tab u).count n (xs g.tables) h.rest h.reads

      entry-ok : {T : Type 0} (view : T → A) (x : Result (Option T) DebugFault) → found_by (debug_fault_of c.1) view no_entry x ≡ picks
          → got_from view (answered x) ≡ (debug_tables_at f p >>= λ t. indexed no_entry (xs t) n)
      entry-ok view x h =
          let g = tables-stand f p (opened_found f p k).starts in
          answered-is view c.1 x (indexed no_entry (xs g.tables) n) (indexed-fault c.1 (xs g.tables) n) (h ∙ picked-at)
          ∙ sym (ap (λ (y : Got (Tables Place)). y >>= λ t. indexed no_entry (xs t) n) g.reads)

    module _ {T : Type 0} where
      abbrev Finds : {A : Type 0} → (T → A) → (Place → Reader A) → Table → ℕ → Result (Option T) DebugFault → Type 0
      Finds view r t n x = found_by (debug_fault_of c.1) view no_entry x ≡ picked (r c.0) c.1 t.at t.count n

      pub variable_ok : (view : T → Variable Place) (n : ℕ) (x : Result (Option T) DebugFault) → Finds view (λ q. variable (by_place q)) u.variables n x
          → got_from view (answered x) ≡ (debug_tables_at f p >>= λ t. indexed no_entry t.variables n)
      variable_ok view n = entry-ok (λ q. variable (by_place q)) (λ u. u.variables) (λ t. t.variables) (λ t s. s.variables) n view

      pub function_ok : (view : T → FunctionName Place) (n : ℕ) (x : Result (Option T) DebugFault) → Finds view (λ q. function_name (by_place q)) u.functions n x
          → got_from view (answered x) ≡ (debug_tables_at f p >>= λ t. indexed no_entry t.functions n)
      function_ok view n = entry-ok (λ q. function_name (by_place q)) (λ u. u.functions) (λ t. t.functions) (λ t s. s.functions) n view

      pub string_ok : (view : T → StringLayout) (n : ℕ) (x : Result (Option T) DebugFault) → Finds view (λ q. string_layout) u.strings n x
          → got_from view (answered x) ≡ (debug_tables_at f p >>= λ t. indexed no_entry t.strings n)
      string_ok view n = entry-ok (λ q. string_layout) (λ u. u.strings) (λ t. t.strings) (λ t s. s.strings) n view

      pub file_ok : (view : T → SourceFile Place) (n : ℕ) (x : Result (Option T) DebugFault) → Finds view (λ q. source_file (by_place q)) u.files n x
          → got_from view (answered x) ≡ (debug_tables_at f p >>= λ t. indexed no_entry t.files n)
      file_ok view n = entry-ok (λ q. source_file (by_place q)) (λ u. u.files) (λ t. t.files) (λ t s. s.files) n view

      pub enumeration_ok : (view : T → EnumerationWithValues) (n : ℕ) (x : Result (Option T) DebugFault) → Finds view (λ q. enumeration_entry q.offset (by_place q)) u.enumerations n x
          → got_from view (answered x) ≡ enumeration_at f p n
      enumeration_ok view n x h =
          entry-ok (λ q. enumeration_entry q.offset (by_place q)) (λ u. u.enumerations) (λ t. map (entry_of p.offset) t.enumerations)
          (λ t s. holds-made (entry_of p.offset) (enumeration (by_place p)) (cut f p) u.enumerations t.enumerations s.enumerations) n view x h
          ∙ entries-as n (debug_tables_at f p)

    -- the name of a value of an enumeration
    pub value_ok : (n j : ℕ) (x : Result (Option Part) DebugFault) → found_by (debug_fault_of c.1) part_in no_entry x ≡ picked_value (by_place c.0) c.1 u.enumerations.at u.enumerations.count n j
        → got_from part_in (answered x) ≡ (debug_tables_at f p >>= λ t. indexed no_entry t.enumerations n >>= λ e. indexed no_entry e.values j)
    value_ok n j x h =
        let g = tables-stand f p (opened_found f p k).starts in
        let m = picked-at (λ q. enumeration (by_place q)) (λ u. u.enumerations) (λ t. t.enumerations) (λ t s. s.enumerations) n in
        answered-is part_in c.1 x (indexed no_entry g.tables.enumerations n >>= λ e. indexed no_entry e.values j) (then-fault c.1 g.tables.enumerations n (λ e. e.values) j)
        (h ∙ ap (λ (y : Got (Enumeration Place)). y >>= λ e. indexed no_entry e.values j) m)
        ∙ sym (ap (λ (y : Got (Tables Place)). y >>= λ t. indexed no_entry t.enumerations n >>= λ e. indexed no_entry e.values j) g.reads)
