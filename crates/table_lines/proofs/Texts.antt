-- The text of a walk that gives a table is the table's text; and the text of a table of a file from where its walk starts.
use Prim.Native.Nat.{ℕ, zero, suc}
use mathlib.Core.Path.{◌≡◌, refl, sym, ap, ◌∙◌}
use mathlib.Core.List.{List, [], ◌∷◌, ◌++◌}
use Rattle.reading.specs.Reader.{Reader}
use Rattle.reading.specs.Answer.{Got, refused, found, ◌>>=◌, item_of}
use Rattle.reading.specs.Places.{Next, ends, faulty, entry, step_of, on_next, walked, driven}
use Rattle.reading.specs.declared.Table.{Table}
use Rattle.format.specs.Parts.{Place, cut}
use Rattle.format.specs.Lookups.{read_at}
use Rattle.format.proofs.Answers.{never, same-found, steps}
use Rattle.base.specs.Section.{section_part, step_by, step_in}
use Rattle.base.proofs.Sections.{section-refused, section-found}
use Rattle.listing.specs.Listing.{each, indexed_from}
use Rattle.table_lines.specs.Walks.{on_step, walk_text, entries_text}
use Rattle.table_lines.specs.Tables.{text_of}

-- lines that have no index
pub each-indexed : {A : Type 0} (i : ℕ) (line_of : A → List ℕ) (xs : List A) → each line_of xs ≡ indexed_from i (λ j. line_of) xs
unfolding each indexed_from
each-indexed i line_of [] = refl
each-indexed i line_of (a ∷ xs) = rw (each-indexed (suc i) line_of xs)

-- steps that give `xs`
pub driven-text : {A : Type 0} (step : Table → Next A) (line_of : ℕ → A → List ℕ) (i n : ℕ) (t : Table) (xs : List A) → driven step n t ≡ found xs
    → walk_text step line_of i n t ≡ indexed_from i line_of xs
unfolding walk_text indexed_from
driven-text step line_of i zero t xs e = let z : [] ≡ xs = same-found e in rw (← z)
driven-text {A} step line_of i (suc n) t xs e = go (driven-text step line_of (suc i) n) (step t) e
  where
    go : ((u : Table) (ys : List A) → driven step n u ≡ found ys → walk_text step line_of (suc i) n u ≡ indexed_from (suc i) line_of ys) → (x : Next A)
        → on_next x (driven step n) ≡ found xs → on_step x (λ a u. line_of i a ++ walk_text step line_of (suc i) n u) ≡ indexed_from i line_of xs
    go rec ends e = let z : [] ≡ xs = same-found e in rw (← z)
    go rec (faulty f) e = never e
    go rec (entry a u) e =
        let k = steps (driven step n u) e in
        let z : a ∷ k.item ≡ xs = same-found k.second in
        rw (← z, rec u k.item k.first)

-- lines that are the same for each entry that a step gives
pub lines-same : {A : Type 0} (step : Table → Next A) (line_of other : ℕ → A → List ℕ) → ((t u : Table) (a : A) → step t ≡ entry a u → (i : ℕ) → line_of i a ≡ other i a)
    → (i n : ℕ) (t : Table) → walk_text step line_of i n t ≡ walk_text step other i n t
unfolding walk_text
lines-same step line_of other h i zero t = refl
lines-same {A} step line_of other h i (suc n) t = go (lines-same step line_of other h (suc i) n) (step t) refl
  where
    go : ((u : Table) → walk_text step line_of (suc i) n u ≡ walk_text step other (suc i) n u) → (x : Next A) → step t ≡ x
        → on_step x (λ a u. line_of i a ++ walk_text step line_of (suc i) n u) ≡ on_step x (λ a u. other i a ++ walk_text step other (suc i) n u)
    go rec ends e = refl
    go rec (faulty f) e = refl
    go rec (entry a u) e = rw (h t u a e i, rec u) refl

module _ (f : List ℕ) (p : Place) {T : Type 0} (R : Reader T) where
  -- a section that reads
  pub record Read-there (a : T) : Type 0 where
    pub part : section_part f p ≡ found p
    pub item : item_of (R (cut f p)) ≡ found a

  pub read-there : (a : T) → read_at f p R ≡ found a → Read-there a
  read-there a e = go (section_part f p) refl
    where
      go : (x : Got Place) → section_part f p ≡ x → Read-there a
      go (refused g) h = never (section-refused f p R g (sym h) ∙ e)
      go (found q) h = let k = section-found f p R q (sym h) in record { part = h ∙ ap found k.same; item = sym k.reads ∙ e }

  -- the text of a table, by where its walk starts
  module _ {A : Type 0} (r : Reader A) (start : T → Table) (entries : T → List A) (line_of : ℕ → A → List ℕ) (lines : T → List ℕ)
      (same : (a : T) → lines a ≡ indexed_from 0 line_of (entries a))
      (walks : (a : T) → read_at f p R ≡ found a → item_of (R (cut f p)) ≡ found a → walked (start a).count r (cut f p) (start a) ≡ found (entries a)) where
    pub start-text : text_of (read_at f p R >>= λ a. found (start a)) (entries_text (step_in f p r) line_of) ≡ text_of (read_at f p R) lines
    start-text = go (read_at f p R) refl
      where
        go : (x : Got T) → read_at f p R ≡ x → text_of (x >>= λ a. found (start a)) (entries_text (step_in f p r) line_of) ≡ text_of x lines
        go (refused g) e = refl
        go (found a) e =
            let h = read-there a e in
            ap (λ (x : Got Place). entries_text (step_by f x r) line_of (start a)) h.part
            ∙ driven-text (step_of r (cut f p)) line_of 0 (start a).count (start a) (entries a) (walks a e h.item)
            ∙ sym (same a)
