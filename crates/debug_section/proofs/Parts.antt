-- The section's part of the file, and its tables, by the code's answers.
use mathlib.Core.Path.{◌≡◌, refl, sym, ap, subst, ◌∙◌}
use mathlib.Core.Bool.{Bool, true, false, ◌&&◌, cond}
use mathlib.Core.List.{List}
use mathlib.Core.Option.{Option, none}
use Prim.Native.Nat.{ℕ, ◌≤◌, ◌<◌}
use lib.Dec.{leb}
use lib.ListN.{length}
use borrow.Author.Tests.{le-leb, lt-leb}
use Rattle.reading.specs.Fault.{Fault}
use Rattle.reading.specs.Answer.{Got, refused, found, ◌>>=◌, ◌>>◌, need, item_of}
use Rattle.format.specs.Faults.{too_long, section_size_mismatch, no_debug}
use Rattle.format.specs.Parts.{limit, Place, cut, is_inside, Inside, by_place}
use Rattle.format.specs.Debug.{Tables, debug_tables}
use Rattle.format.specs.Integrity.{section_in}
use Rattle.format.specs.Load.{read_in}
use Rattle.format.specs.Lookups.{or_no_debug, debug_at}
use Rattle.format.proofs.Answers.{never, same-found}
use Rattle.format.proofs.Places.{inside_is, is-inside, length_cut}
use Rattle.requests.specs.BadPlace.{bad_place, bad_place_at}
use Rattle.base.specs.Section.{section_part, opened}
use Rattle.debug_text.specs.Answers.{keep_in}
use Rattle.debug_tables.specs.Starts.{debug_starts}
use Rattle.debug_tables.specs.Laws.{Standing}
use Rattle.debug_tables.specs.SixTags.{DebugTables}
use Rattle.debug_tables.proofs.Standing as standing
use Rattle.debug_section.specs.Lookups.{debug_tables_at, debug_part, debug_cut, opened_at, starts_at}

module _ (f : List ℕ) (p : Place) where
  -- the section's part of the file
  pub part_long : limit < length f → refused too_long ≡ debug_part f p
  unfolding debug_part
  part_long h = rw (lt-leb (length f) limit h)

  pub part_out : (e : Fault) → length f ≤ limit → refused e ≡ section_part f p → refused no_debug ≡ debug_part f p
  unfolding debug_part section_part
  part_out e h k = rw (le-leb (length f) limit h) (go (is_inside f p) (rw (le-leb (length f) limit h) at k))
    where
      go : (z : Bool) → refused e ≡ (need z section_size_mismatch >> found p) → refused no_debug ≡ (need z no_debug >> found p)
      go true k = never k
      go false k = refl

  pub part_in : (q : Place) → found q ≡ section_part f p → found q ≡ debug_part f p
  unfolding debug_part section_part
  part_in q k = go (leb (length f) limit) (is_inside f p) k
    where
      go : (y z : Bool) → found q ≡ ((need y too_long >> need z section_size_mismatch) >> found p) → found q ≡ (need y too_long >>= λ u. need z no_debug >> found p)
      go true true k = k
      go true false k = never (sym k)
      go false z k = never (sym k)

  -- what is known where it lies in the file
  pub record InPart (q : Place) : Type 0 where
    pub same : q ≡ p
    pub inside : Inside f p
    pub part : debug_part f p ≡ found p
    pub tables : debug_tables_at f p ≡ or_no_debug (item_of (debug_tables (by_place p) (cut f p)))
    pub starts : starts_at f p ≡ or_no_debug (item_of (debug_starts (cut f p)))

  pub in-part : {q : Place} → found q ≡ debug_part f p → InPart q
  unfolding debug_part debug_at starts_at read_in section_in
  in-part {q} k = go (leb (length f) limit) (is_inside f p) refl refl k
    where
      go : (y z : Bool) → leb (length f) limit ≡ y → is_inside f p ≡ z → found q ≡ (need y too_long >>= λ u. need z no_debug >> found p) → InPart q
      go true true m i k = record { same = same-found k; inside = inside_is f p i; part = rw (m, i); tables = rw (m, i); starts = rw (m, i) }
      go true false m i k = never (sym k)
      go false z m i k = never (sym k)

  -- names and paths kept by their place in the section's bytes are kept by their place in the file
  pub kept : Inside f p → keep_in p.offset (cut f p) ≡ by_place p
  kept i = ap (λ (n : ℕ). by_place (record { offset = p.offset; size = n })) (length_cut f p (is-inside f p i))

  -- the same with its bytes
  pub cut-refused : {e : Fault} → refused e ≡ debug_cut f p → refused e ≡ debug_part f p
  cut-refused {e} k = go (debug_part f p) k
    where
      go : (x : Got Place) → refused e ≡ (x >>= λ q. found (opened f q)) → refused e ≡ x
      go (refused d) k = let z : e ≡ d = cc in ap refused z
      go (found q) k = never k

  pub cut-found : {c : Place × List ℕ} → found c ≡ debug_cut f p → (c ≡ opened f p) × (found p ≡ debug_part f p)
  cut-found {c} k = go (debug_part f p) refl k
    where
      go : (x : Got Place) → debug_part f p ≡ x → found c ≡ (x >>= λ q. found (opened f q)) → (c ≡ opened f p) × (found p ≡ debug_part f p)
      go (refused d) h k = never (sym k)
      go (found q) h k = let e = (in-part (sym h)).same in (same-found k ∙ ap (opened f) e, sym (h ∙ ap found e))

  -- with where the tables in force stand in them
  abbrev Both : Type 0
  Both = (Place × List ℕ) × DebugTables

  pub opened-refused : {e : Fault} → refused e ≡ opened_at f p → refused e ≡ starts_at f p
  unfolding starts_at
  opened-refused {e} k = go (debug_part f p) k
    where
      last : (c : Place × List ℕ) (x : Got DebugTables) → ◌≡◌ {A = Got Both} (refused e) (x >>= λ u. found (c, u)) → refused e ≡ x
      last c (refused d) k = let z : e ≡ d = cc in ap refused z
      last c (found u) k = never k

      go : (x : Got Place) → ◌≡◌ {A = Got Both} (refused e) ((x >>= λ q. found (opened f q)) >>= λ c. or_no_debug (item_of (debug_starts c.1)) >>= λ u. found (c, u))
          → refused e ≡ (x >>= λ q. or_no_debug (item_of (debug_starts (cut f q))))
      go (refused d) k = let z : e ≡ d = cc in ap refused z
      go (found q) k = last (opened f q) (or_no_debug (item_of (debug_starts (cut f q)))) k

  pub record Opened (c : Place × List ℕ) (u : DebugTables) : Type 0 where
    pub same : c ≡ opened f p
    pub inside : Inside f p
    pub starts : found u ≡ starts_at f p

  pub opened_found : {c : Place × List ℕ} {u : DebugTables} → found (c, u) ≡ opened_at f p → Opened c u
  unfolding starts_at
  opened_found {c} {u} k = go (debug_part f p) refl k
    where
      last : (b : Place × List ℕ) (x : Got DebugTables) → ◌≡◌ {A = Got Both} (found (c, u)) (x >>= λ v. found (b, v)) → (c ≡ b) × (found u ≡ x)
      last b (refused d) k = never (sym k)
      last b (found v) k = let z : ◌≡◌ {A = Both} (c, u) (b, v) = same-found k in (ap (λ (y : Both). y.0) z, ap (λ (y : Both). found y.1) z)

      go : (x : Got Place) → debug_part f p ≡ x → ◌≡◌ {A = Got Both} (found (c, u)) ((x >>= λ q. found (opened f q)) >>= λ c. or_no_debug (item_of (debug_starts c.1)) >>= λ u. found (c, u))
          → Opened c u
      go (refused d) h k = never (sym k)
      go (found q) h k =
          let g = in-part (sym h) in
          let l = last (opened f q) (or_no_debug (item_of (debug_starts (cut f q)))) k in
          record {
            same = l.0 ∙ ap (opened f) g.same;
            inside = g.inside;
            starts = l.1 ∙ sym (ap (λ (x : Got Place). x >>= λ q. or_no_debug (item_of (debug_starts (cut f q)))) h);
          }

  -- where the tables stand
  pub starts-refused : {e : Fault} → refused e ≡ debug_part f p → refused e ≡ starts_at f p
  unfolding starts_at
  starts-refused k = rw (← k)

  -- the section's bad place
  pub place_err : (e : Fault) → refused e ≡ debug_cut f p → none ≡ bad_place_at f p
  unfolding debug_part bad_place_at
  place_err e k = go (leb (length f) limit) (is_inside f p) k
    where
      go : (y z : Bool) → refused e ≡ ((need y too_long >>= λ u. need z no_debug >> found p) >>= λ q. found (opened f q)) → none ≡ cond (y && z) (bad_place (cut f p)) none
      go true true k = never k
      go true false k = refl
      go false z k = refl

  pub place_ok : (c : Place × List ℕ) (x : Option ℕ) → found c ≡ debug_cut f p → x ≡ bad_place c.1 → x ≡ bad_place_at f p
  unfolding debug_part bad_place_at
  place_ok c x k h = go (leb (length f) limit) (is_inside f p) k
    where
      go : (y z : Bool) → found c ≡ ((need y too_long >>= λ u. need z no_debug >> found p) >>= λ q. found (opened f q)) → x ≡ cond (y && z) (bad_place (cut f p)) none
      go true true k = h ∙ ap (λ (y : Place × List ℕ). bad_place y.1) (same-found k)
      go true false k = never (sym k)
      go false z k = never (sym k)

  -- the tables are refused as their places are, and else stand there
  pub record Stand (u : DebugTables) : Type 0 where
    pub tables : Tables Place
    pub reads : debug_tables_at f p ≡ found tables
    pub stand : Standing (by_place p) (cut f p) u tables

  pub tables-refused : {e : Fault} → refused e ≡ starts_at f p → refused e ≡ debug_tables_at f p
  unfolding starts_at debug_part debug_at read_in section_in
  tables-refused {e} k = go (leb (length f) limit) (is_inside f p) k
    where
      last : (x : Got DebugTables) → item_of (debug_starts (cut f p)) ≡ x → refused e ≡ or_no_debug x → refused e ≡ or_no_debug (item_of (debug_tables (by_place p) (cut f p)))
      last (refused g) h k =
          let z : e ≡ no_debug = cc in
          ap refused z ∙ sym (ap or_no_debug (standing.unreadable (by_place p) (cut f p) g h))
      last (found u) h k = never k

      go : (y z : Bool) → refused e ≡ ((need y too_long >>= λ u. need z no_debug >> found p) >>= λ q. or_no_debug (item_of (debug_starts (cut f q))))
          → refused e ≡ (need y too_long >>= λ u. or_no_debug ((need z section_size_mismatch >>= λ v. found (cut f p)) >>= λ s. item_of (debug_tables (by_place p) s)))
      go true true k = last (item_of (debug_starts (cut f p))) refl k
      go true false k = let z : e ≡ no_debug = cc in ap refused z
      go false z k = let z : e ≡ too_long = cc in ap refused z

  pub tables-stand : {u : DebugTables} → found u ≡ starts_at f p → Stand u
  tables-stand {u} k = go (debug_part f p) refl
    where
      last : InPart p → (x : Got DebugTables) → item_of (debug_starts (cut f p)) ≡ x → found u ≡ or_no_debug x → Stand u
      last g (refused d) h k = never (sym k)
      last g (found v) h k =
          let z : v ≡ u = sym (same-found k) in
          let q = standing.readable (by_place p) (cut f p) v h in
          record { tables = q.tables; reads = g.tables ∙ ap or_no_debug q.reads; stand = subst (λ (w : DebugTables). Standing (by_place p) (cut f p) w q.tables) z q.stand }

      go : (x : Got Place) → debug_part f p ≡ x → Stand u
      go (refused e) h = never (starts-refused (sym h) ∙ sym k)
      go (found q) h = let g = in-part (sym h) in last (in-part (sym g.part)) (item_of (debug_starts (cut f p))) refl (k ∙ g.starts)

  -- a section that reads
  pub record Reads (t : Tables Place) : Type 0 where
    pub part : InPart p
    pub starts : DebugTables
    pub started : starts_at f p ≡ found starts
    pub stand : Standing (by_place p) (cut f p) starts t

  pub tables-found : (t : Tables Place) → debug_tables_at f p ≡ found t → Reads t
  tables-found t k = go (starts_at f p) refl (debug_part f p) refl
    where
      go : (x : Got DebugTables) → starts_at f p ≡ x → (y : Got Place) → debug_part f p ≡ y → Reads t
      go (refused e) h y i = never (tables-refused (sym h) ∙ k)
      go (found u) h (refused e) i = never (starts-refused (sym i) ∙ h)
      go (found u) h (found q) i =
          let g = tables-stand (sym h) in
          record {
            part = in-part (sym (in-part (sym i)).part);
            starts = u;
            started = h;
            stand = subst (Standing (by_place p) (cut f p) u) (same-found (sym g.reads ∙ k)) g.stand;
          }
