-- What each reader of an entry gives and leaves, closed under `do`: what it leaves is left of the section, and the names and paths that it gives
-- lie in the section. So the laws of `specs/Laws.antt` hold.
use mathlib.Core.Path.{◌≡◌, refl, ap, subst, ◌∙◌}
use mathlib.Core.Bool.{Bool, true, false, cond}
use mathlib.Core.List.{List, [], ◌∷◌}
use Prim.Native.Nat.{ℕ, zero, suc, ◌-◌}
use native.Mathlib.Omega.{arith}
use lib.Dec.{eqb, ltb}
use lib.ListN.{length, drop, length-drop}
use Rattle.utf8.specs.Utf8.{valid_up_to, utf8}
use Rattle.reading.specs.Fault.{bad_text}
use Rattle.reading.specs.Reader.{Read, fault, got, Reader, next, ◌>>=◌, give, check, bytes, number, many, counted}
use Rattle.reading.specs.Answer.{refused, found, item_of, indexed}
use Rattle.reading.specs.Places.{ends, entry, next_of, step_of, Holds}
use Rattle.reading.specs.declared.Table.{Table}
use Rattle.reading.proofs.Reading.{both, bytes-length}
use Rattle.reading.proofs.Width.{fixed-bytes, fixed-width}
use Rattle.reading.proofs.Local.{Local, local-check, local-bytes, local-number}
use Rattle.reading.proofs.Left.{LeftOf, left_at, stays-local, walk-is-table}
use Rattle.reading.proofs.Tables.{counted-stands}
use Rattle.format.specs.Faults.{no_entry}
use Rattle.format.specs.Parts.{Place}
use Rattle.format.specs.Debug.{text, name, path, variable, function_name, source_file, Enumeration, enumeration}
use Rattle.format.proofs.Readers.{local-string_layout}
use Rattle.debug_text.specs.Answers.{keep_in}
use Rattle.base.specs.Picked.{picked}
use Rattle.debug_text.proofs.Texts.{name-ends}
use Rattle.debug_entries.specs.Answers.{entry_of}
use Rattle.debug_entries.specs.Laws.{Lies, Walkable, VariableLies, FunctionLies, FileLies, EnumerationLies, Laws}
use Rattle.debug_entries.proofs.Entries.{entries_way}
use Rattle.debug_entries.proofs.Places as places
use Rattle.base.proofs.Picked.{picked_is}

module _ (whole : List ℕ) where
  record Gives {A : Type 0} (P : A → Type 0) (r : Reader A) : Type 0 where
    leaves : (x : List ℕ) (a : A) (t : List ℕ) → LeftOf whole x → r x ≡ got a t → P a × LeftOf whole t

  gives_local : {A : Type 0} {r : Reader A} → Local r → Gives (λ a. Unit {0}) r
  gives_local h = record { leaves = λ x a t w e. (tt, (stays-local whole h).leaves x a t w e) }

  gives-number : (n : ℕ) → Gives (λ a. Unit {0}) (number n)
  gives-number n = gives_local (local-number n)

  gives-give : {A : Type 0} (P : A → Type 0) (a : A) → P a → Gives P (give a)
  gives-give P a p = record { leaves = λ x b t w e. let y : a ≡ b = cc in let z : x ≡ t = cc in (subst P y p, subst (LeftOf whole) z w) }

  gives-bind : {A B : Type 0} {Q : A → Type 0} {P : B → Type 0} {r : Reader A} {go : A → Reader B} → Gives Q r → ((a : A) → Q a → Gives P (go a)) → Gives P (r >>= go)
  gives-bind {A} {B} {Q} {P} {r} {go} hr hg =
      record {
        leaves = λ x b t w e.
            let k = both (r x) e in
            let q = hr.leaves x k.item k.middle w k.first in
            (hg k.item q.0).leaves k.middle b t q.1 k.second;
      }

  -- of several items each that an index finds
  abbrev Each : {A : Type 0} → (A → Type 0) → List A → Type 0
  Each {A} P xs = (j : ℕ) (a : A) → indexed no_entry xs j ≡ found a → P a

  each_none : {A : Type 0} (P : A → Type 0) → Each P []
  each_none P j a e = absurd (let z : ◌≡◌ {A = ℕ} 0 1 = cc in omega arith)

  each_more : {A : Type 0} (P : A → Type 0) (x : A) (xs : List A) → P x → Each P xs → Each P (x ∷ xs)
  each_more P x xs p h zero a e = let z : x ≡ a = cc in subst P z p
  each_more P x xs p h (suc j) a e = h j a e

  gives-many : {A : Type 0} {P : A → Type 0} (n : ℕ) {r : Reader A} → Gives P r → Gives (Each P) (many n r)
  gives-many {A} {P} zero h = gives-give (Each P) [] (each_none P)
  gives-many {A} {P} (suc n) h = gives-bind h (λ a p. gives-bind (gives-many n h) (λ xs ps. gives-give (Each P) (a ∷ xs) (each_more P a xs p ps)))

  module _ (base : ℕ) where
    gives-text : (n : ℕ) → Gives (Lies base whole) (text (keep_in base whole) n)
    unfolding text
    gives-text n =
        record {
          leaves = λ x p t w e.
              let b = both (bytes n x) e in
              let u = b.item in
              let c = both (check (utf8 u) (bad_text (length x - valid_up_to u)) b.middle) b.second in
              let m = (stays-local whole (local-bytes n)).leaves x u b.middle w b.first in
              let v = (stays-local whole (local-check (utf8 u) (bad_text (length x - valid_up_to u)))).leaves b.middle c.item c.middle m c.first in
              let i = ((fixed-width (fixed-bytes n)).takes x u b.middle b.first).1 in
              let l = bytes-length n x u b.middle b.first in
              let d = ap length w.is ∙ length-drop w.behind whole in
              let k = w.most in
              let y : keep_in base whole u (length x - n) ≡ p = cc in
              let z : c.middle ≡ t = cc in
              (subst (Lies base whole) y (record { starts = omega arith; ends = omega arith }), subst (LeftOf whole) z v);
        }

    gives-name : Gives (Lies base whole) (name (keep_in base whole))
    unfolding name
    gives-name = gives-bind (gives-number 1) (λ n u. gives-text n)

    gives-variable : Gives (VariableLies base whole) (variable (keep_in base whole))
    unfolding variable
    gives-variable =
        gives-bind (gives-number 2) λ i u.
        gives-bind (gives-number 2) λ f u.
        gives-bind (gives-number 1) λ c u.
        gives-bind (gives-number 1) λ t u.
        gives-bind gives-name λ n p.
        gives-bind gives-name λ y q. gives-give (VariableLies base whole) _ (p, q)

    gives-function : Gives (FunctionLies base whole) (function_name (keep_in base whole))
    unfolding function_name
    gives-function = gives-bind (gives-number 2) λ i u. gives-bind gives-name λ n p. gives-give (FunctionLies base whole) _ p

    gives-file : Gives (FileLies base whole) (source_file (keep_in base whole))
    unfolding source_file path
    gives-file =
        gives-bind (gives-bind (gives-number 2) (λ n u. gives-text n)) λ l p. gives-bind (gives_local (local-bytes 32)) λ h u. gives-give (FileLies base whole) _ p

    -- an enumeration's names lie in the section
    abbrev NamesLie : Enumeration Place → Type 0
    NamesLie e = Lies base whole e.named × Each (Lies base whole) e.values

    gives-names : Gives NamesLie (enumeration (keep_in base whole))
    unfolding enumeration
    gives-names = gives-bind gives-name λ n p. gives-bind (gives-bind (gives-number 2) (λ k u. gives-many k gives-name)) λ vs ps. gives-give NamesLie _ (p, ps)

    -- and those of its values follow its name and their count
    values-stand : (x : List ℕ) (e : Enumeration Place) (t : List ℕ) → LeftOf whole x → enumeration (keep_in base whole) x ≡ got e t
        → Holds (name (keep_in base whole)) whole (entry_of base e).values e.values
    unfolding enumeration
    values-stand x e t w h =
        let r = name (keep_in base whole) in
        let g = subst (λ (y : List ℕ). enumeration (keep_in base whole) y ≡ got e t) w.is h in
        let p = both (r (drop w.behind whole)) g in
        let m = (gives-name.leaves (drop w.behind whole) p.item p.middle (record { behind = w.behind; most = w.most; is = refl }) p.first).1 in
        let q = both (counted r p.middle) p.second in
        let c = subst (λ (y : List ℕ). counted r y ≡ got q.item q.middle) m.is q.first in
        let stands = counted-stands r whole m.behind q.item q.middle m.most c in
        let b = name-ends base whole w.behind p.item m.behind (m.most, p.first ∙ ap (got p.item) m.is) in
        let z : record { named = p.item; values = q.item } ≡ e = cc in
        subst (λ (v : Enumeration Place). Holds r whole (entry_of base v).values v.values) z
        (subst (λ (at : ℕ). Holds r whole (record { at = at; count = length q.item }) q.item) (omega arith) stands)

    gives-enumeration : Gives (EnumerationLies base whole) (enumeration (keep_in base whole))
    gives-enumeration =
        record {
          leaves = λ x e t w h.
              let k = gives-names.leaves x e t w h in
              ((k.0.0, k.0.1, values-stand x e t w h), k.1);
        }

  module _ {A : Type 0} (P : A → Type 0) (r : Reader A) (h : Gives P r) where
    found_in : (x : List ℕ) (a : A) → LeftOf whole x → (y : Read A) → r x ≡ y → item_of y ≡ found a → P a
    found_in x a w (fault f) d e = absurd (let z : ◌≡◌ {A = ℕ} 0 1 = cc in omega arith)
    found_in x a w (got b t) d e = let z : b ≡ a = cc in subst P z (h.leaves x b t w d).0

    picked-in : (at n k : ℕ) (a : A) → picked r whole at n k ≡ found a → P a
    unfolding picked
    picked-in at n k a e = go (ltb k n) (many k r (drop at whole)) refl e
      where
        go : (z : Bool) (y : Read (List A)) → many k r (drop at whole) ≡ y → cond z (item_of (next y (λ before. r))) (refused no_entry) ≡ found a → P a
        go false y d e = absurd (let z : ◌≡◌ {A = ℕ} 0 1 = cc in omega arith)
        go true (fault f) d e = absurd (let z : ◌≡◌ {A = ℕ} 0 1 = cc in omega arith)
        go true (got bs x) d e = found_in x a ((gives-many k h).leaves (drop at whole) bs x (left_at whole at) d).1 (r x) refl e

    step-in : (t u : Table) (a : A) → step_of r whole t ≡ entry a u → P a
    unfolding step_of
    step-in t u a e = go (eqb t.count 0) (r (drop t.at whole)) refl e
      where
        go : (z : Bool) (y : Read A) → r (drop t.at whole) ≡ y → cond z ends (next_of whole t y) ≡ entry a u → P a
        go true y d e = absurd (let z : ◌≡◌ {A = ℕ} 0 1 = cc in omega arith)
        go false (fault f) d e = absurd (let z : ◌≡◌ {A = ℕ} 0 1 = cc in omega arith)
        go false (got b m) d e = let z : b ≡ a = cc in subst P z (h.leaves (drop t.at whole) b m (left_at whole t.at) d).0

    walkable : Walkable P r whole
    walkable =
        record {
          walk = λ t. walk-is-table whole r (record { leaves = λ x a y w e. (h.leaves x a y w e).1 }) t.count t refl;
          lookup = λ t k xs rest e. picked_is r whole t.at t.count k xs rest e;
          found-is = picked-in;
          step_is = step-in;
        }

pub laws : Laws
laws =
    record {
      variable-placed = λ base s. places.variable-placed s base;
      function-name-placed = λ base s. places.function-name-placed s base;
      source-file-placed = λ base s. places.source-file-placed s base;
      enumeration-placed = λ base s. places.enumeration-placed s base;
      names = λ base s. walkable s _ _ (gives-name s base);
      variables = λ base s. walkable s _ _ (gives-variable s base);
      functions = λ base s. walkable s _ _ (gives-function s base);
      strings = λ s. walkable s _ _ (gives_local s local-string_layout);
      files = λ base s. walkable s _ _ (gives-file s base);
      enumerations = λ base s. walkable s _ _ (gives-enumeration s base);
      enumerations-passed = λ base s n at. entries_way base (keep_in base s) s n at;
    }
