-- A walk over a table of a section at a place of a file: where the section reads, its steps, driven from where the table starts, give the table.
use mathlib.Core.Path.{◌≡◌, refl, sym, ap, ◌∙◌}
use mathlib.Core.List.{List}
use Prim.Native.Nat.{ℕ}
use Rattle.reading.specs.Reader.{got, Reader}
use Rattle.reading.specs.Answer.{Got, refused, found, ◌>>=◌, item_of}
use Rattle.reading.specs.Places.{left_of, step_of, GivesFrom}
use Rattle.reading.specs.declared.Table.{Table}
use Rattle.reading.proofs.Left.{Stays}
use Rattle.reading.proofs.Driven.{steps-give}
use Rattle.format.specs.Parts.{Place, cut}
use Rattle.format.specs.Lookups.{read_at}
use Rattle.format.proofs.Answers.{never}
use Rattle.base.specs.Section.{section_part, step_by, step_in}
use Rattle.base.proofs.Sections.{section-refused, section-found}

module _ (f : List ℕ) (p : Place) {A : Type 0} (r : Reader A) (a : A) (e : read_at f p r ≡ found a) where
  -- the section lies in the file, and its bytes read so
  pub record Opened : Type 0 where
    pub part : section_part f p ≡ found p
    pub reads : item_of (r (cut f p)) ≡ found a

  pub opened : Opened
  opened = go (section_part f p) refl
    where
      go : (x : Got Place) → section_part f p ≡ x → Opened
      go (refused g) h = never (section-refused f p r g (sym h) ∙ e)
      go (found q) h = let g = section-found f p r q (sym h) in record { part = h ∙ ap found g.same; reads = sym g.reads ∙ e }

  -- a step is one over these bytes
  pub step-opened : {B : Type 0} (q : Reader B) (u : Table) → step_in f p q u ≡ step_of q (cut f p) u
  step-opened q u = ap (λ (x : Got Place). step_by f x q u) opened.part

  -- the table that `start` makes of what the section reads to
  pub walk-gives-from : {B : Type 0} (q : Reader B) → Stays (cut f p) q → (start : A → Table) (xs : List B) (rest : List ℕ) → left_of q (cut f p) (start a) ≡ got xs rest
      → GivesFrom (read_at f p r >>= λ b. found (start b)) (step_in f p q) xs
  walk-gives-from q s start xs rest h = record { first = start a; starts = rw e; gives = steps-give (cut f p) q s (step_in f p q) (step-opened q) (start a) xs rest h }
