-- Walks over the entries of a table, by what the reader of one entry answers.
use native.Mathlib.Decide.{dec_le}
use Rattle.std.proofs.Common.{◌≡◌, ℕ, ◌+◌, ◌*◌, ◌-◌, ◌≤◌, ◌<◌, List, length, drop, refl, sym, ap, ◌∙◌, lt-ltb, le-ltb, arith}
use Rattle.std.specs.Prelude.{min, Option, Some, None, Ok, ok_or}
use Rattle.std.proofs.lemmas.List.{drop_min, drop_all, drop-drop, length-drop}
use Rattle.reading.specs.Fault.{Fault, short_input}
use Rattle.reading.specs.Reader.{Read, fault, got, Reader, many}
use Rattle.reading.specs.Places.{Step, stops, item, step_given, step_at, stops_by, on_to, way_given, way_at, left_of, faulty, entry, step_of}
use Rattle.reading.specs.declared.Table.{Table}
use Rattle.reading.proofs.Left.{Stays, stays-many}
use Rattle.reading.proofs.Given.{reads_at, goes_at, step-at, way-at}
use Rattle.reading.specs.Answer.{refused, found, item_of, indexed}
use Rattle.base.specs.Answers.{got_by, found_by, way_by, way_if_there}
use Rattle.base.specs.Picked.{picked}
use Rattle.base.specs.Indexing.{read_by_width}
use Rattle.base.proofs.Picked.{picked_stop, picked_read}
use Rattle.reading.proofs.Width.{Width, Needs, Fixed, needs-at, fixed-at, fixed-many}
use Rattle.reading.proofs.Tables.{answer_by, At, at_width, at_reads, at-picked, index-out}
use Rattle.reading.proofs.Passing.{Passed, passed-all, passed-stop, passed-more}
use Rattle.base.proofs.FileLookups.{step-stops, step-entry}

module _ {A : Type 0} (r : Reader A) (s : List ℕ) where
  -- an entry that its reader stops at, and one that it reads
  pub read_err : (at : ℕ) (f : Fault) → r (drop at s) ≡ fault f → stops f ≡ step_at r s at
  read_err at f e = step-at r s at (stops f) e

  pub read_ok : (at : ℕ) (a : A) (m : ℕ) → m ≤ length s → r (drop at s) ≡ got a (drop m s) → item a m ≡ step_at r s at
  read_ok at a m h e = step-at r s at (item a m) (h, e)

  -- too few bytes for any entry
  pub read_short : {k : ℕ} → Needs k r → (at : ℕ) → length s - at < k → stops short_input ≡ step_at r s at
  read_short n at l = read_err at short_input (needs-at n s at l)

-- past the end of a section stands what stands at its end
way_near : {A : Type 0} (r : Reader A) (s : List ℕ) (at : ℕ) → way_at r s (min at (length s)) ≡ way_at r s at
unfolding way_at
way_near r s at = ap (λ (x : List ℕ). way_given s (r x)) (drop_min at s)

module _ {A : Type 0} (r : Reader A) (s : List ℕ) (h : Stays s r) where
  -- one step of a walk
  module _ (t : Table) (more : t.count ≡ 0 → ⊥) where
    pub step_err : (f : Fault) → stops f ≡ step_at r s t.at → faulty f ≡ step_of r s t
    step_err f e = step-stops r s t more (reads_at h t.at e)

    pub step_ok : (a : A) (m : ℕ) → item a m ≡ step_at r s t.at → entry a (record { at = m; count = t.count - 1 }) ≡ step_of r s t
    step_ok a m e = let k = reads_at h t.at e in step-entry r s t more k.0 k.1

  -- a loop over `n` entries from `at` on, or from the end of `s` where that is nearer: `i` of them are passed, the next one stands at `p`
  module _ (n at i p : ℕ) (k : Passed r s n (min at (length s)) i p) where
    pub skip_end : n ≤ i → on_to p ≡ way_at (many n r) s at
    skip_end l = way-at (many n r) s (min at (length s)) (on_to p) (passed-all r s n (min at (length s)) i p l k) ∙ way_near (many n r) s at

    pub skip_err : i < n → (f : Fault) → stops f ≡ step_at r s p → stops_by f ≡ way_at (many n r) s at
    skip_err l f e = way-at (many n r) s (min at (length s)) (stops_by f) (passed-stop r s n (min at (length s)) i p f l k (reads_at h p e)) ∙ way_near (many n r) s at

    pub skip_more : i < n → (a : A) (m : ℕ) → item a m ≡ step_at r s p → Passed r s n (min at (length s)) (i + 1) m
    skip_more l a m e = let g = reads_at h p e in passed-more r s n (min at (length s)) i p a m l k g.0 g.1

  -- a lookup by index: those before it are passed over
  module _ (at n k : ℕ) (l : k < n) where
    pub find_stop : (f : Fault) → stops_by f ≡ way_at (many k r) s at → refused f ≡ picked r s at n k
    find_stop f e = picked_stop r s at n k f l (goes_at (stays-many s k h) at e)

    module _ (p : ℕ) (e : on_to p ≡ way_at (many k r) s at) where
      pub find_err : (f : Fault) → stops f ≡ step_at r s p → refused f ≡ picked r s at n k
      find_err f d = picked_read r s at n k p {v = stops f} l (goes_at (stays-many s k h) at e) refl (reads_at h p d)

      pub find_ok : (a : A) (m : ℕ) → item a m ≡ step_at r s p → found a ≡ picked r s at n k
      find_ok a m d = picked_read r s at n k p {v = item a m} l (goes_at (stays-many s k h) at e) refl (reads_at h p d)

-- `n` entries of one width that no content refuses, from `at` on or from the end of `s` where that is nearer
module _ {A : Type 0} (r : Reader A) (s : List ℕ) {w : ℕ} (h : Fixed w r) (n at : ℕ) where
  pub pass_short : length s - min at (length s) < w * n → stops_by short_input ≡ way_at (many n r) s at
  pass_short l = way-at (many n r) s (min at (length s)) (stops_by short_input) (needs-at (fixed-many n h).short s (min at (length s)) l) ∙ way_near (many n r) s at

  pub pass_whole : w * n ≤ length s - min at (length s) → on_to (min at (length s) + w * n) ≡ way_at (many n r) s at
  pass_whole l =
      let i : min at (length s) + w * n ≤ length s = omega arith in
      way-at (many n r) s (min at (length s)) (on_to (min at (length s) + w * n)) (i, fixed-at (fixed-many n h) s (min at (length s)) i) ∙ way_near (many n r) s at

-- an entry at an index of a table whose entries have one width, looked up at the place `m`
module _ {A : Type 0} (r : Reader A) (s : List ℕ) (t : Table) (k : ℕ) where
  pub width_out : t.count ≤ k → (xs : List A) (rest : List ℕ) → left_of r s t ≡ got xs rest → (out : Fault) → refused out ≡ indexed out xs k
  width_out l xs rest e out = sym (index-out r k t.count (drop t.at s) xs rest out l e)

  pub width_none : (w : ℕ) → t.count ≤ k → (out : Fault) → refused out ≡ read_by_width out r w s t k
  width_none w l out = rw (le-ltb k t.count l)

  module _ (w : ℕ) (l : k < t.count) (m : ℕ) (z : t.at + w * k < length s → m ≡ t.at + w * k) where
    module _ (q : (0 < w) × Width w r) (h : Stays s r) (xs : List A) (rest : List ℕ) (d : left_of r s t ≡ got xs rest) where
      there : At r xs k (drop (t.at + w * k) s)
      there = rw drop-drop at (at_width r q.1 k t.count (drop t.at s) xs rest l d)

      place : m ≡ t.at + w * k
      place = z (omega (arith, q.0, (q.1.takes (drop (t.at + w * k) s) there.item there.behind there.reads).1, length-drop (t.at + w * k) s))

      pub width_stop : (f : Fault) → stops f ≡ step_at r s m → (out : Fault) → refused f ≡ indexed out xs k
      width_stop f e out = absurd (at_reads r there f (reads_at h (t.at + w * k) (rw place at e)))

      pub width_found : (a : A) (p : ℕ) → item a p ≡ step_at r s m → (out : Fault) → found a ≡ indexed out xs k
      width_found a p e out = sym (at-picked r there a (drop p s) (reads_at h (t.at + w * k) (rw place at e)).1 out)

    -- behind the section nothing stands, wherever
    module _ (y : length s ≤ t.at + w * k → length s ≤ m) where
      same-left : drop m s ≡ drop (t.at + w * k) s
      same-left = go (dec_le (length s) (t.at + w * k))
        where
          go : Dec (length s ≤ t.at + w * k) → drop m s ≡ drop (t.at + w * k) s
          go (yes i) = drop_all m s (y i) ∙ sym (drop_all (t.at + w * k) s i)
          go (no i) = ap (λ (n : ℕ). drop n s) (z (omega arith))

      pub width_read : (x : Step A) → x ≡ step_at r s m → (out : Fault) → answer_by x ≡ read_by_width out r w s t k
      unfolding step_at
      width_read x e out = ap answer_by e ∙ rw (lt-ltb k t.count l, same-left) (go (r (drop (t.at + w * k) s)))
        where
          go : (v : Read A) → answer_by (step_given s v) ≡ item_of v
          go (fault f) = refl
          go (got a rest) = refl

-- a lookup that may find nothing, once it is said what that means
pub or_out : {E T A : Type 0} (told : E → Fault) (view : T → A) (e : E) (x : Option T) → got_by told view (ok_or x e) ≡ found_by told view (told e) (Ok x)
or_out told view e None = refl
or_out told view e (Some x) = refl

-- plain entries that are passed over, once it is said which error means that they are not all there
pub or_there : {E : Type 0} (told : E → Fault) (e : E) → told e ≡ short_input → (x : Option ℕ) → way_by told (ok_or x e) ≡ way_if_there x
or_there told e h None = ap stops_by h
or_there told e h (Some m) = refl
