-- The pool over the section's bytes, and the section as its part of the file.
use mathlib.Core.Path.{◌≡◌, refl, sym, ap, subst, ◌∙◌}
use mathlib.Core.Bool.{Bool, true, false, cond}
use mathlib.Core.List.{List, map}
use Prim.Native.Nat.{ℕ, ◌+◌, ◌≤◌}
use native.Mathlib.Omega.{arith}
use lib.Dec.{eqb}
use lib.ListN.{length, drop, length-map}
use Rattle.std.specs.Prelude.{Result, Ok, Err, Option, Some, None, IfOk, IfSome}
use Rattle.reading.specs.Fault.{Fault}
use Rattle.reading.specs.Reader.{Read, fault, got, Reader}
use Rattle.reading.specs.Answer.{Got, refused, found, ◌>>=◌, item_of}
use Rattle.reading.specs.Places.{Next, ends, entry, next_of, step_of}
use Rattle.reading.specs.declared.Table.{Table}
use Rattle.reading.proofs.Parts.{length_part}
use Rattle.reading.proofs.Left.{left-all}
use Rattle.reading.proofs.From.{first_of, from-lookup, from_first}
use Rattle.format.specs.Faults.{invalid_constant_index}
use Rattle.format.specs.Parts.{Place, cut, Keep, by_bytes, by_place}
use Rattle.format.specs.Constants.{Constant, on_constant, constant, constants}
use Rattle.format.specs.Lookups.{read_at}
use Rattle.format.proofs.Answers.{never, same-found, refused-then, found-then}
use Rattle.format.proofs.Keeping.{Alike, stops, gives, same-constants}
use Rattle.format.proofs.Leaves.{stays-constant}
use Rattle.base.specs.Answers.{next_from}
use Rattle.base.specs.Section.{opened, section_part, section_cut, step_in}
use Rattle.base.specs.declared.error.ContainerError.{ContainerError}
use Rattle.base.proofs.Sections.{section-found}
use Rattle.base.proofs.FileLookups.{lookup_ok, walk_ok}
use Rattle.constant_pool.specs.Lookups.{pool_count, pool_from, constant_in}
use Rattle.constant_pool.specs.Answers.{const_in, KeptEnds}
use Rattle.constant_pool.specs.declared.ConstEntry.{ConstEntry}
use Rattle.constant_pool.proofs.Entries.{StringEnds, constant-ends, kept-ends}

-- Strings by their bytes or by their places: the same refusals, and as many constants

module _ (s : List ℕ) where
  count-on : {T U : Type 0} {h : U → T} {x : Read (List (Constant T))} {y : Read (List (Constant U))} → Alike s (map (on_constant h)) x y
      → (item_of x >>= λ cs. found (length cs)) ≡ (item_of y >>= λ cs. found (length cs))
  count-on (stops f) = refl
  count-on (gives cs t w) = ap found (length-map cs _)

  -- nothing of a string is kept
  nothing : Keep (Unit {0})
  nothing b behind = tt

  as-many : {T : Type 0} (keep : Keep T) → (item_of (constants nothing s) >>= λ cs. found (length cs)) ≡ (item_of (constants keep s) >>= λ cs. found (length cs))
  as-many keep = count-on (same-constants s nothing keep (λ t. tt) (λ k n i. refl) s (left-all s))

  module _ (p : Place) where
    pub count-either : pool_count s ≡ (item_of (constants (by_place p) s) >>= λ cs. found (length cs))
    count-either = sym (as-many by_bytes) ∙ as-many (by_place p)

    -- where the constants stand
    pub start_is : pool_from p s 0 ≡ (item_of (constants (by_place p) s) >>= λ cs. found (record { at = 2; count = length cs }))
    unfolding constants
    start_is = from_first (constant (by_place p)) s

    pub count-refused : (f : Fault) → refused f ≡ pool_from p s 0 → refused f ≡ pool_count s
    count-refused f e = refused-then (item_of (constants (by_place p) s)) (λ cs. record { at = 2; count = length cs }) (λ cs. found (length cs)) f (e ∙ start_is) ∙ sym count-either

    pub count-found : (t : Table) → found t ≡ pool_from p s 0 → found t.count ≡ pool_count s
    count-found t e = found-then (item_of (constants (by_place p) s)) (λ cs. record { at = 2; count = length cs }) (λ u. u.count) t (e ∙ start_is) ∙ sym count-either

    -- a lookup, by the first step from its index on
    module _ (index : ℕ) where
      abbrev first_in : Table → Got (Constant Place)
      first_in t = first_of (invalid_constant_index index) (step_of (constant (by_place p)) s t)

      find-as : (pool_from p s index >>= first_in) ≡ constant_in p s index
      unfolding constants
      find-as = from-lookup (constant (by_place p)) index s (stays-constant s (by_place p)) (invalid_constant_index index)

      pub find-refused : (f : Fault) → refused f ≡ pool_from p s index → refused f ≡ constant_in p s index
      find-refused f e = ap (λ x. x >>= first_in) e ∙ find-as

      pub find-by : (t : Table) → found t ≡ pool_from p s index → (x : Next (Constant Place)) → x ≡ step_of (constant (by_place p)) s t
          → first_of (invalid_constant_index index) x ≡ constant_in p s index
      find-by t e x g = ap (first_of (invalid_constant_index index)) g ∙ ap (λ x. x >>= first_in) e ∙ find-as

-- a string that a step gives ends in the section, and so in the file
module _ (p : Place) (s : List ℕ) (m : length s ≤ p.offset + p.size) (most : ℕ) (l : p.offset + p.size ≤ most) (t : Table) where
  pub step-ends : (c : ConstEntry) (u : Table) → entry (const_in c) u ≡ step_of (constant (by_place p)) s t → KeptEnds most c.kept
  unfolding step_of
  step-ends c u e = go (eqb t.count 0) (constant (by_place p) (drop t.at s)) refl e
    where
      go : (z : Bool) (x : Read (Constant Place)) → constant (by_place p) (drop t.at s) ≡ x → entry (const_in c) u ≡ cond z ends (next_of s t x) → KeptEnds most c.kept
      go true x d e = absurd (let z : ◌≡◌ {A = ℕ} 0 1 = cc in omega arith)
      go false (fault f) d e = absurd (let z : ◌≡◌ {A = ℕ} 0 1 = cc in omega arith)
      go false (got a rest) d e =
          let z : a ≡ const_in c = cc in
          kept-ends (p.offset + p.size) most l c.kept (subst (λ (v : Constant Place). StringEnds (p.offset + p.size) v.kept) z (constant-ends p s m t.at a rest d))

  pub next-ends : (r : Result (Option (ConstEntry × Table)) ContainerError) → next_from const_in r ≡ step_of (constant (by_place p)) s t → IfOk r (λ o. IfSome o (λ x. KeptEnds most x.0.kept))
  next-ends (Err e) h = tt
  next-ends (Ok None) h = tt
  next-ends (Ok (Some x)) h = step-ends x.0 x.1 h

-- the section's part of the file
module _ (f : List ℕ) (p : Place) (c : Place × List ℕ) (e : found c ≡ section_cut f p) where
  pub record Opened : Type 0 where
    pub same : c.0 ≡ p
    pub size : length c.1 ≡ p.size
    pub within : p.offset + p.size ≤ length f

  pub is-opened : Opened
  is-opened = go (section_part f p) refl e
    where
      go : (x : Got Place) → section_part f p ≡ x → found c ≡ (x >>= λ q. found (opened f q)) → Opened
      go (refused d) i h = never (sym h)
      go (found q) i h =
          let g = section-found f p (constants by_bytes) q (sym i) in
          let z : c ≡ opened f q = same-found h in
          record {
            same = ap (λ (y : Place × List ℕ). y.0) z ∙ g.same;
            size = ap (λ (y : Place × List ℕ). length y.1) z ∙ ap (λ (y : Place). length (cut f y)) g.same ∙ length_part f p.offset p.size g.inside.within;
            within = g.inside.within;
          }

  -- a lookup, and a step of a walk, whose reader depends on the section's place
  pub lookup_placed : {A B : Type 0} (r : Place → Reader A) (go : A → Got B) (x : Got B) → x ≡ (item_of (r c.0 c.1) >>= go) → x ≡ (read_at f p (r p) >>= go)
  lookup_placed r go x k = lookup_ok f p (r p) go c x e (k ∙ ap (λ (q : Place). item_of (r q c.1) >>= go) is-opened.same)

  pub walk_placed : {A : Type 0} (r : Place → Reader A) (t : Table) (x : Next A) → x ≡ step_of (r c.0) c.1 t → x ≡ step_in f p (r p) t
  walk_placed r t x k = walk_ok f p (r p) t c x e (k ∙ ap (λ (q : Place). step_of (r q) c.1 t) is-opened.same)
