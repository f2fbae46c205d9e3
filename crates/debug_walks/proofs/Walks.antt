-- Walks over the tables in force give the tables.
use mathlib.Core.Path.{◌≡◌, refl, ap, subst, ◌∙◌}
use mathlib.Core.List.{List, [], map}
use Prim.Native.Nat.{ℕ, zero, suc, ◌≤◌}
use native.Mathlib.Omega.{arith}
use Rattle.reading.specs.Reader.{Reader}
use Rattle.reading.specs.Answer.{Got, found, indexed, item_of}
use Rattle.reading.specs.Places.{Next, ends, faulty, entry, step_of, on_next, driven, Gives, walked, left_of, Holds}
use Rattle.reading.specs.declared.Table.{Table}
use Rattle.reading.proofs.Left.{stays-local, walk-is-table}
use Rattle.format.specs.Faults.{no_entry}
use Rattle.format.specs.Parts.{Place, cut, Keep, by_place}
use Rattle.format.specs.Debug.{line, name, variable, function_name, string_layout, source_file, Enumeration, enumeration, Tables}
use Rattle.format.proofs.Answers.{never, steps}
use Rattle.format.proofs.Readers.{local-line}
use Rattle.base.proofs.FileLookups.{step-ends, step_count}
use Rattle.debug_text.specs.Answers.{keep_in}
use Rattle.reading.proofs.Made.{holds-made}
use Rattle.debug_entries.specs.Answers.{entry_of, enumeration_entry}
use Rattle.debug_entries.specs.Stays.{entry_stays}
use Rattle.debug_entries.proofs.Giving as entries
use Rattle.debug_section.specs.Lookups.{debug_tables_at}
use Rattle.debug_walks.specs.Steps.{no_debug_step, debug_step_by, debug_step_at}
use Rattle.debug_walks.specs.Laws.{Walks, Laws}
use Rattle.debug_section.proofs.Parts.{kept, tables-found}

module _ {A : Type 0} where
  -- no step is left after a table's last entry
  none_left : (r : Reader A) (s : List ℕ) (step : Table → Next A) → ((u : Table) → step u ≡ no_debug_step (step_of r s u)) → (n : ℕ) (t : Table) → t.count ≡ 0 → driven step n t ≡ found []
  none_left r s step h zero t z = refl
  none_left r s step h (suc n) t z = rw (h t, ← step-ends r s t z)

  -- steps that are those over the section's bytes, where these give the table
  driven-gives : (r : Reader A) (s : List ℕ) (step : Table → Next A) → ((u : Table) → step u ≡ no_debug_step (step_of r s u)) → (k n : ℕ) (t : Table) (xs : List A) → t.count ≡ k → k ≤ n
      → walked k r s t ≡ found xs → driven step n t ≡ found xs
  driven-gives r s step h zero n t xs z l e = none_left r s step h n t z ∙ e
  driven-gives r s step h (suc k) zero t xs z l e = absurd (omega arith)
  driven-gives r s step h (suc k) (suc n) t xs z l e = rw (h t) (go (driven-gives r s step h k n) (step_of r s t) refl e)
    where
      go : ((u : Table) (ys : List A) → u.count ≡ k → k ≤ n → walked k r s u ≡ found ys → driven step n u ≡ found ys) → (x : Next A) → step_of r s t ≡ x → on_next x (walked k r s) ≡ found xs
          → on_next (no_debug_step x) (driven step n) ≡ found xs
      go rec ends d e = e
      go rec (faulty f) d e = never e
      go rec (entry a u) d e =
          let i = steps (walked k r s u) e in
          let c = step_count r s t d in
          rw (rec u i.item (omega arith) (omega arith) i.first) i.second

module _ (f : List ℕ) (p : Place) (t : Tables Place) (d : debug_tables_at f p ≡ found t) where
  reads : Rattle.debug_section.proofs.Parts.Reads f p t
  reads = tables-found f p t d

  step_is : {A : Type 0} (r : Reader A) (u : Table) → debug_step_at f p r u ≡ no_debug_step (step_of r (cut f p) u)
  step_is r u = ap (λ (x : Got Place). debug_step_by f x r u) reads.part.part

  -- a table whose walk over the section's bytes is known
  abbrev Walkable : {A : Type 0} → (Keep Place → Reader A) → Keep Place → Type 0
  Walkable r keep = (u : Table) → walked u.count (r keep) (cut f p) u ≡ item_of (left_of (r keep) (cut f p) u)

  gives : {A : Type 0} (r : Keep Place → Reader A) (u : Table) (xs : List A) → Walkable r (keep_in p.offset (cut f p)) → Holds (r (by_place p)) (cut f p) u xs
      → Gives (debug_step_at f p (r (by_place p))) u xs
  gives r u xs w h =
      λ n l.
      driven-gives (r (by_place p)) (cut f p) (debug_step_at f p (r (by_place p))) (step_is (r (by_place p))) u.count n u xs refl l
      (subst (Walkable r) (kept f p reads.part.inside) w u ∙ ap item_of h.reads)

  values : (i : ℕ) (e : Enumeration Place) → indexed no_entry t.enumerations i ≡ found e → Gives (debug_step_at f p (name (by_place p))) (entry_of p.offset e).values e.values
  values i e k =
      let u = reads.starts.enumerations in
      let l = (entries.laws).enumerations p.offset (cut f p) in
      gives name (entry_of p.offset e).values e.values ((entries.laws).names p.offset (cut f p)).walk
      (subst (λ (keep : Keep Place). Holds (enumeration keep) (cut f p) u t.enumerations → Holds (name keep) (cut f p) (entry_of p.offset e).values e.values)
      (kept f p reads.part.inside) (λ h. (l.found-is u.at u.count i e (l.lookup u i t.enumerations h.rest h.reads ∙ k)).2)
      reads.stand.enumerations)

  pub walks : Walks f p t
  walks =
      let g = reads in
      let u = g.starts in
      let s = g.stand in
      let l = entries.laws in
      let o = p.offset in
      let b = cut f p in
      record {
        starts = u;
        started = g.started;
        lines = gives (λ keep. line) u.lines t.lines (λ v. walk-is-table b line (stays-local b local-line) v.count v refl) s.lines;
        variables = gives variable u.variables t.variables (l.variables o b).walk s.variables;
        functions = gives function_name u.functions t.functions (l.functions o b).walk s.functions;
        strings = gives (λ keep. string_layout) u.strings t.strings (l.strings b).walk s.strings;
        files = gives source_file u.files t.files (l.files o b).walk s.files;
        enumerations = gives (enumeration_entry o) u.enumerations (map (entry_of o) t.enumerations) (λ v. walk-is-table b (enumeration_entry o (keep_in o b)) (entry_stays o (keep_in o b) b) v.count v refl)
            (holds-made (entry_of o) (enumeration (by_place p)) (cut f p) u.enumerations t.enumerations s.enumerations);
        values = values;
      }

pub laws : Laws
laws = record { walks = walks }
