-- The claims of `specs/Laws.antt`.
use mathlib.Core.Path.{◌≡◌, refl, sym, ap, subst, ◌∙◌}
use mathlib.Core.List.{List}
use mathlib.Core.Option.{some}
use Prim.Native.Nat.{ℕ}
use Rattle.reading.specs.Fault.{Fault}
use Rattle.reading.specs.Reader.{Reader}
use Rattle.reading.specs.Answer.{Got, refused, found, indexed}
use Rattle.reading.specs.Places.{Holds}
use Rattle.reading.specs.declared.Table.{Table}
use Rattle.format.specs.Faults.{no_entry}
use Rattle.format.specs.Parts.{Place, cut, Inside, Keep, by_place}
use Rattle.format.specs.Debug.{variable, function_name, source_file, Enumeration, enumeration, Tables}
use Rattle.format.specs.Record.{DebugCounts, Container}
use Rattle.format.specs.Lookups.{EnumerationHead, debug_in, debug_answers}
use Rattle.format.proofs.Answers.{never, same-found, steps}
use Rattle.debug_text.specs.Answers.{keep_in}
use Rattle.base.specs.Picked.{picked}
use Rattle.debug_entries.specs.Laws.{Lies, VariableLies, FunctionLies, FileLies, EnumerationLies}
use Rattle.debug_entries.proofs.Giving as entries
use Rattle.debug_tables.specs.Laws.{Standing}
use Rattle.debug_tables.specs.SixTags.{DebugTables}
use Rattle.debug_section.specs.Lookups.{debug_tables_at, starts_at, answers_at}
use Rattle.debug_section.specs.Laws.{NamesInside, Laws}
use Rattle.debug_section.proofs.Parts.{kept, tables-refused, tables-stand, tables-found}
use Rattle.base.proofs.Picked.{picked_is}

answers : (f : List ℕ) (r : Container) (c : DebugCounts) → r.debug ≡ some c → debug_answers f r ≡ answers_at f r.header.directory.debug
unfolding debug_in
answers f r c e = rw e

found_alike : (f : List ℕ) (p : Place) (e : Fault) → debug_tables_at f p ≡ refused e → starts_at f p ≡ refused e
found_alike f p e k = go (starts_at f p) refl
  where
    go : (x : Got DebugTables) → starts_at f p ≡ x → starts_at f p ≡ refused e
    go (refused d) h = let z : d ≡ e = cc (tables-refused f p (sym h), k) in h ∙ ap refused z
    go (found u) h = never (sym k ∙ (tables-stand f p (sym h)).reads)

module _ (f : List ℕ) (p : Place) where
  -- an entry of a table whose entries each that a lookup gives are `P`
  lies : {A : Type 0} (P : List ℕ → A → Type 0) (r : Keep Place → Reader A) (xs : Tables Place → List A) (tab : DebugTables → Table)
      → ((u : DebugTables) (t : Tables Place) → Standing (by_place p) (cut f p) u t → Holds (r (by_place p)) (cut f p) (tab u) (xs t))
      → ((at n k : ℕ) (a : A) → picked (r (keep_in p.offset (cut f p))) (cut f p) at n k ≡ found a → P (cut f p) a)
      → (t : Tables Place) → debug_tables_at f p ≡ found t → (i : ℕ) (a : A) → indexed no_entry (xs t) i ≡ found a → Inside f p × P (cut f p) a
  lies {A} P r xs tab holds given t d i a k =
      let g = tables-found f p t d in
      let h = holds g.starts t g.stand in
      let e = picked_is (r (by_place p)) (cut f p) (tab g.starts).at (tab g.starts).count i (xs t) h.rest h.reads in
      let m = subst (λ (keep : Keep Place). (at n k : ℕ) (a : A) → picked (r keep) (cut f p) at n k ≡ found a → P (cut f p) a) (kept f p g.part.inside) given in
      (g.part.inside, m (tab g.starts).at (tab g.starts).count i a (e ∙ k))

  enumeration-lies : (t : Tables Place) → debug_tables_at f p ≡ found t → (i : ℕ) (e : Enumeration Place) → indexed no_entry t.enumerations i ≡ found e → Inside f p × EnumerationLies p.offset (cut f p) e
  enumeration-lies = lies (EnumerationLies p.offset) enumeration (λ t. t.enumerations) (λ u. u.enumerations) (λ u t s. s.enumerations) ((entries.laws).enumerations p.offset (cut f p)).found-is

  names-inside : NamesInside f p
  names-inside =
      record {
        variable = λ i v e.
            let k = steps (debug_tables_at f p) e in
            lies (VariableLies p.offset) variable (λ t. t.variables) (λ u. u.variables) (λ u t s. s.variables) ((entries.laws).variables p.offset (cut f p)).found-is k.item k.first i v k.second;
        function_name = λ i v e.
            let k = steps (debug_tables_at f p) e in
            lies (FunctionLies p.offset) function_name (λ t. t.functions) (λ u. u.functions) (λ u t s. s.functions) ((entries.laws).functions p.offset (cut f p)).found-is k.item k.first i v k.second;
        source_file = λ i v e.
            let k = steps (debug_tables_at f p) e in
            lies (FileLies p.offset) source_file (λ t. t.files) (λ u. u.files) (λ u t s. s.files) ((entries.laws).files p.offset (cut f p)).found-is k.item k.first i v k.second;
        enumeration = λ i v e.
            let k = steps (debug_tables_at f p) e in
            let m = steps (indexed no_entry k.item.enumerations i) k.second in
            let h = enumeration-lies k.item k.first i m.item m.first in
            let z = same-found m.second in
            (h.0, subst (λ (x : EnumerationHead Place). Lies p.offset (cut f p) x.named) z h.1.0);
        enumeration_value = λ i j v e.
            let k = steps (debug_tables_at f p) e in
            let m = steps (indexed no_entry k.item.enumerations i) k.second in
            let h = enumeration-lies k.item k.first i m.item m.first in
            (h.0, h.1.1 j v m.second);
      }

pub laws : Laws
laws = record { answers = answers; refused-alike = λ f p e k. sym (tables-refused f p (sym k)); found_alike = found_alike; names-inside = names-inside }
