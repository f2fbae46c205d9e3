-- Lookups over a file and a section's place in it, from what the section's part of the file is and from the same lookup over the section's
-- bytes; one step of a walk; the place of a part of a section; the bytes of an answered part.
use mathlib.Core.Path.{◌≡◌, refl, sym, ap, ◌∙◌}
use mathlib.Core.Bool.{Bool, true, false, cond}
use mathlib.Core.List.{List}
use Prim.Native.Nat.{ℕ, ◌+◌, ◌-◌, ◌≤◌}
use native.Mathlib.Omega.{arith}
use lib.Dec.{leb, eqb}
use lib.ListN.{length, take, drop, length-drop}
use borrow.Author.Tests.{eq-eqb, ne_eqb}
use Rattle.reading.specs.Fault.{Fault}
use Rattle.reading.specs.Reader.{Read, fault, got, Reader}
use Rattle.reading.specs.Answer.{Got, refused, found, ◌>>=◌, need, item_of}
use Rattle.reading.specs.Places.{Step, stops, item, Next, ends, faulty, entry, next_of, step_of}
use Rattle.reading.specs.declared.Table.{Table}
use Rattle.format.specs.Faults.{too_long, section_size_mismatch}
use Rattle.format.specs.Parts.{limit, Place, cut, is_inside, Inside, by_place}
use Rattle.format.specs.Integrity.{section_in}
use Rattle.format.specs.Load.{read_in}
use Rattle.format.specs.Lookups.{read_at}
use Rattle.format.proofs.Answers.{never, same-found}
use Rattle.format.proofs.Places.{inside_is}
use Rattle.base.specs.Section.{section_part, opened, section_cut, step_by, step_in}
use Rattle.base.proofs.Sections.{section-refused, section-found}

-- `&f[start..end]`, where `end` is `start + size`
abbrev pub sliced : List ℕ → Place → List ℕ
sliced f q = take (q.offset + q.size - q.offset) (drop q.offset f)

module _ (f : List ℕ) (p : Place) where
  -- a lookup, by what the section's part of the file is
  module _ {A B : Type 0} (r : Reader A) (go : A → Got B) where
    pub lookup-refused : {e : Fault} → refused e ≡ section_part f p → refused e ≡ (read_at f p r >>= go)
    lookup-refused {e} h = rw (← section-refused f p r e h)

    -- the same by the section's bytes
    pub lookup_err : (e : Fault) → refused e ≡ section_cut f p → refused e ≡ (read_at f p r >>= go)
    lookup_err e h = go1 (section_part f p) refl h
      where
        go1 : (x : Got Place) → section_part f p ≡ x → refused e ≡ (x >>= λ q. found (opened f q)) → refused e ≡ (read_at f p r >>= go)
        go1 (refused d) i h = let z : e ≡ d = cc in lookup-refused (ap refused z ∙ sym i)
        go1 (found q) i h = never h

    pub lookup_ok : (c : Place × List ℕ) (x : Got B) → found c ≡ section_cut f p → x ≡ (item_of (r c.1) >>= go) → x ≡ (read_at f p r >>= go)
    lookup_ok c x h k = go1 (section_part f p) refl h
      where
        go1 : (y : Got Place) → section_part f p ≡ y → found c ≡ (y >>= λ q. found (opened f q)) → x ≡ (read_at f p r >>= go)
        go1 (refused d) i h = never (sym h)
        go1 (found o) i h =
            let z : c ≡ opened f o = same-found h in
            let s = section-found f p r o (sym i) in
            k ∙ ap (λ (b : List ℕ). item_of (r b) >>= go) (ap (λ (y : Place × List ℕ). y.1) z ∙ ap (cut f) s.same) ∙ ap (λ (y : Got A). y >>= go) (sym s.reads)

    -- what a lookup that found something knows
    pub record Answered : Type 0 where
      pub inside : Inside f p
      pub reads : read_at f p r ≡ item_of (r (cut f p))

    pub answered : {b : B} → found b ≡ (read_at f p r >>= go) → Answered
    unfolding read_at read_in section_in
    answered {b} h = at (leb (length f) limit) (is_inside f p) refl refl h
      where
        at : (y z : Bool) → leb (length f) limit ≡ y → is_inside f p ≡ z
            → found b ≡ ((need y too_long >>= λ u. (need z section_size_mismatch >>= λ v. found (cut f p)) >>= λ s. item_of (r s)) >>= go) → Answered
        at true true m i h = record { inside = inside_is f p i; reads = rw (m, i) }
        at true false m i h = never (sym h)
        at false z m i h = never (sym h)

  -- a step of a walk
  module _ {A : Type 0} (r : Reader A) (t : Table) where
    pub step-refused : {e : Fault} → refused e ≡ section_part f p → faulty e ≡ step_in f p r t
    step-refused h = ap (λ (x : Got Place). step_by f x r t) h

    -- the same by the section's bytes
    pub walk_err : (e : Fault) → refused e ≡ section_cut f p → faulty e ≡ step_in f p r t
    walk_err e h = go (section_part f p) refl h
      where
        go : (x : Got Place) → section_part f p ≡ x → refused e ≡ (x >>= λ q. found (opened f q)) → faulty e ≡ step_in f p r t
        go (refused d) i h = let z : e ≡ d = cc in step-refused (ap refused z ∙ sym i)
        go (found q) i h = never h

    pub walk_ok : (c : Place × List ℕ) (x : Next A) → found c ≡ section_cut f p → x ≡ step_of r c.1 t → x ≡ step_in f p r t
    walk_ok c x h k = go (section_part f p) refl h
      where
        go : (y : Got Place) → section_part f p ≡ y → found c ≡ (y >>= λ q. found (opened f q)) → x ≡ step_in f p r t
        go (refused d) i h = never (sym h)
        go (found o) i h =
            let z : c ≡ opened f o = same-found h in
            k ∙ ap (λ (y : Place × List ℕ). step_of r y.1 t) z ∙ ap (λ (x : Got Place). step_by f x r t) (sym i)

-- a part of a section, by its place `to` in the file
pub placed : (p : Place) (body : List ℕ) (to size behind : ℕ) → length body ≡ size → to + size + behind ≡ p.offset + p.size
    → by_place p body behind ≡ record { offset = to; size = size }
placed p body to size behind l h =
    let o : p.offset + p.size - behind - size ≡ to = omega arith in
    rw (l, o)

-- a step of a walk, over the section's bytes
abbrev pub next_by : {A : Type 0} → Table → Step A → Next A
next_by t (stops f) = faulty f
next_by t (item a m) = entry a (record { at = m; count = t.count - 1 })

module _ {A : Type 0} (r : Reader A) (s : List ℕ) (t : Table) where
  pub step-ends : t.count ≡ 0 → ends ≡ step_of r s t
  unfolding step_of
  step-ends h = rw (eq-eqb t.count 0 h)

  pub step-stops : {e : Fault} → (t.count ≡ 0 → ⊥) → r (drop t.at s) ≡ fault e → faulty e ≡ step_of r s t
  unfolding step_of
  step-stops h k = rw (ne_eqb t.count 0 h, k)

  pub step-entry : {a : A} {m : ℕ} → (t.count ≡ 0 → ⊥) → m ≤ length s → r (drop t.at s) ≡ got a (drop m s) → entry a (record { at = m; count = t.count - 1 }) ≡ step_of r s t
  unfolding step_of
  step-entry {a} {m} h l k =
      let d = length-drop m s in
      let n : length s - length (drop m s) ≡ m = omega arith in
      rw (ne_eqb t.count 0 h, k, n)

  -- a step over an entry leaves one entry fewer
  pub step_count : {a : A} {u : Table} → step_of r s t ≡ entry a u → u.count ≡ t.count - 1
  unfolding step_of
  step_count {a} {u} e = go (eqb t.count 0) (r (drop t.at s)) e
    where
      go : (z : Bool) (y : Read A) → cond z ends (next_of s t y) ≡ entry a u → u.count ≡ t.count - 1
      go true y e = absurd (let z : ◌≡◌ {A = ℕ} 0 1 = cc in omega arith)
      go false (fault f) e = absurd (let z : ◌≡◌ {A = ℕ} 0 1 = cc in omega arith)
      go false (got b x) e = let z : record { at = length s - length x; count = t.count - 1 } ≡ u = cc in sym (ap (λ (v : Table). v.count) z)
