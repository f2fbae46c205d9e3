-- Types of a file within the limit, and debug of any file, by what the section's part of the file is.
use mathlib.Core.Path.{◌≡◌, refl, sym, ap, ◌∙◌}
use mathlib.Core.Bool.{Bool, true, false, ◌&&◌, cond}
use mathlib.Core.List.{List}
use mathlib.Core.Option.{Option, none, some}
use native.Mathlib.Omega.{arith}
use Prim.Native.Nat.{ℕ, ◌≤◌, ◌<◌}
use lib.Dec.{leb, ltb}
use lib.ListN.{length}
use borrow.Author.Tests.{leb-true, le-leb, lt-ltb, le-ltb}
use Rattle.reading.specs.Fault.{Fault}
use Rattle.reading.specs.Reader.{Read, fault, got}
use Rattle.reading.specs.Answer.{Got, refused, found, ◌>>=◌, ◌>>◌, need, item_of}
use Rattle.format.specs.Faults.{too_long, section_size_mismatch}
use Rattle.format.specs.Parts.{limit, hash_limit, Place, cut, is_inside}
use Rattle.format.specs.Header.{Header, types_flag}
use Rattle.format.specs.Types.{TypeTables, type_tables}
use Rattle.format.specs.Debug.{Tables}
use Rattle.format.specs.InForce.{InForce, none_in_force, in_force_in, in_force_with}
use Rattle.format.specs.Load.{has_types, types_found, debug_found, in_force_found, DebugState, empty, outside, hash_differs, unreadable, read, state_of_read, debug_state, debug_kept}
use Rattle.format.specs.Record.{TypeCounts, DebugCounts, type_counts, table_counts, debug_counts, state_counts}
use Rattle.format.proofs.Answers.{never, same-found}
use Rattle.format.proofs.Places.{length_cut, inside_is}
use Rattle.format.proofs.DebugStates.{debug-states, section-decides}
use Rattle.format.proofs.Loads.{debug-read}
use Rattle.base.specs.Section.{section_part, opened, section_cut}
use Rattle.blake3.specs.Blake3.{blake3}
use Rattle.integrity.proofs.Laws.{laws}
use Rattle.type_section.specs.Lookups.{type_counts_of_section}
use Rattle.integrity.specs.Hashes.{debug_fits}
use Rattle.container.specs.Answers.{debug_state_in}
use Rattle.container.specs.declared.DebugState as states
use Rattle.container.specs.declared.DebugState.TheVariants as state
use Rattle.container.specs.Sections.{type_counts_at, type_counts_of, section_state, debug_state_of, in_force_at}

abbrev counted : TypeTables → Got TypeCounts
counted t = found (record { fb_types = length t.fb_types; arrays = length t.arrays; user_fbs = length t.user_fbs })

-- What a section's bytes say of its place
module _ (f : List ℕ) (p : Place) where
  pub cut_err : (e : Fault) → refused e ≡ section_cut f p → refused e ≡ section_part f p
  cut_err e h = go (section_part f p) h
    where
      go : (x : Got Place) → refused e ≡ (x >>= λ q. found (opened f q)) → refused e ≡ x
      go (refused d) h = let z : e ≡ d = cc in ap refused z
      go (found q) h = never h

  pub record OfPart (c : Place × List ℕ) : Type 0 where
    pub part : found c.0 ≡ section_part f p
    pub bytes : c.1 ≡ cut f c.0

  pub cut_ok : (c : Place × List ℕ) → found c ≡ section_cut f p → OfPart c
  cut_ok c h = go (section_part f p) refl h
    where
      go : (x : Got Place) → section_part f p ≡ x → found c ≡ (x >>= λ q. found (opened f q)) → OfPart c
      go (refused d) i h = never (sym h)
      go (found q) i h =
          let z : c ≡ opened f q = same-found h in
          record { part = ap (λ (y : Place × List ℕ). found y.0) z ∙ sym i; bytes = ap (λ (y : Place × List ℕ). y.1) z ∙ sym (ap (λ (y : Place × List ℕ). cut f y.0) z) }

-- a section has a part only of a file within the limit
part-within : (f : List ℕ) (p : Place) {q : Place} → found q ≡ section_part f p → length f ≤ limit
unfolding section_part
part-within f p {q} h = go (leb (length f) limit) refl h
  where
    go : (b : Bool) → leb (length f) limit ≡ b → found q ≡ (need b too_long >> need (is_inside f p) section_size_mismatch >> found p) → length f ≤ limit
    go true i k = leb-true _ _ i
    go false i k = never (sym k)

-- the part of a file within the limit that a section is, or none
module _ (f : List ℕ) (p : Place) (l : length f ≤ limit) where
  pub part-outside : (e : Fault) → refused e ≡ section_cut f p → is_inside f p ≡ false
  unfolding section_part
  part-outside e h = go (is_inside f p) (rw (le-leb _ _ l) at (cut_err f p e h))
    where
      go : (z : Bool) → refused e ≡ (need z section_size_mismatch >> found p) → z ≡ false
      go true k = never k
      go false k = refl

  pub record Part (c : Place × List ℕ) : Type 0 where
    pub inside : is_inside f p ≡ true
    pub bytes : c.1 ≡ cut f p

  pub part-inside : (c : Place × List ℕ) → found c ≡ section_cut f p → Part c
  unfolding section_part
  part-inside c h = let o = cut_ok f p c h in go (is_inside f p) refl (rw (le-leb _ _ l) at o.part) o.bytes
    where
      go : (z : Bool) → is_inside f p ≡ z → found c.0 ≡ (need z section_size_mismatch >> found p) → c.1 ≡ cut f c.0 → Part c
      go true i k b = record { inside = i; bytes = b ∙ ap (cut f) (same-found k) }
      go false i k b = never (sym k)

  -- types
  pub types-outside : (e : Fault) → refused e ≡ section_cut f p → found none ≡ type_counts_at f p
  types-outside e h = rw (part-outside e h)

  some-refused : {e : Fault} (x : Got TypeTables) → refused e ≡ (x >>= counted) → refused e ≡ (x >>= λ t. found (type_counts (some t)))
  some-refused (refused d) k = cc
  some-refused (found t) k = never k

  some-found : {c : TypeCounts} (x : Got TypeTables) → found c ≡ (x >>= counted) → found (some c) ≡ (x >>= λ t. found (type_counts (some t)))
  some-found (refused d) k = never (sym k)
  some-found (found t) k = ap (λ (c : TypeCounts). found (some c)) (same-found k)

  pub types-refused : (c : Place × List ℕ) (e : Fault) → found c ≡ section_cut f p → refused e ≡ type_counts_of_section c.1 → refused e ≡ type_counts_at f p
  types-refused c e h k = let s = part-inside c h in rw s.inside (some-refused (item_of (type_tables (cut f p))) (rw s.bytes at k))

  pub types-counted : (o : Place × List ℕ) (c : TypeCounts) → found o ≡ section_cut f p → found c ≡ type_counts_of_section o.1 → found (some c) ≡ type_counts_at f p
  types-counted o c h k = let s = part-inside o h in rw s.inside (some-found (item_of (type_tables (cut f p))) (rw s.bytes at k))

-- by their flag and size
module _ (f : List ℕ) (h : Header) where
  pub types-unsized : h.directory.types.size ≡ 0 → found none ≡ type_counts_of f h
  unfolding types_found has_types
  types-unsized z =
      let s : ltb 0 h.directory.types.size ≡ false = le-ltb 0 h.directory.types.size (omega arith) in
      rw s (go (types_flag h.flags))
    where
      go : (b : Bool) → found none ≡ (cond (b && false && is_inside f h.directory.types) (item_of (type_tables (cut f h.directory.types)) >>= λ t. found (some t)) (found none) >>= λ t. found (type_counts t))
      go true = refl
      go false = refl

  pub types-unflagged : {b : Bool} → b ≡ types_flag h.flags → b ≡ false → found none ≡ type_counts_of f h
  unfolding types_found has_types
  types-unflagged e z = rw (sym e ∙ z)

  pub types-there : {b : Bool} {x : Got (Option TypeCounts)} → b ≡ types_flag h.flags → b ≡ true → (h.directory.types.size ≡ 0 → ⊥)
      → x ≡ type_counts_at f h.directory.types → x ≡ type_counts_of f h
  unfolding types_found has_types
  types-there {b} {x} e t n k =
      let s : ltb 0 h.directory.types.size ≡ true = lt-ltb 0 h.directory.types.size (omega arith) in
      rw (sym e ∙ t, s) (k ∙ go (is_inside f h.directory.types) (item_of (type_tables (cut f h.directory.types))))
    where
      go : (i : Bool) (y : Got TypeTables) → cond i (y >>= λ t. found (type_counts (some t))) (found none) ≡ (cond i (y >>= λ t. found (some t)) (found none) >>= λ t. found (type_counts t))
      go true (refused d) = refl
      go true (found t) = refl
      go false y = refl

-- Debug: the state of a section by its reader, and what loading keeps of a state
pub state-fault : {e : Fault} (x : Read (Tables (List ℕ))) → refused e ≡ (item_of x >>= λ t. found (table_counts t)) → unreadable e ≡ state_counts (state_of_read x)
state-fault (fault d) k = cc
state-fault (got t rest) k = never k

pub state-counted : {c : DebugCounts} (x : Read (Tables (List ℕ))) → found c ≡ (item_of x >>= λ t. found (table_counts t)) → read c ≡ state_counts (state_of_read x)
state-counted (fault d) k = never (sym k)
state-counted (got t rest) k = ap read (same-found k)

kept-counts : (s : DebugState (Tables (List ℕ))) → debug_kept (state_counts s) ≡ debug_counts (debug_kept s)
kept-counts empty = refl
kept-counts outside = refl
kept-counts hash_differs = refl
kept-counts (unreadable e) = refl
kept-counts (read t) = refl

-- a section that was not read keeps nothing
pub unread : (s : List ℕ) (x : states.DebugState) → ((k : _) → x ≡ state.Read k → ⊥) → none ≡ debug_kept (debug_state_in s x)
unread s state.Empty h = refl
unread s state.Outside h = refl
unread s state.HashDiffers h = refl
unread s (state.Unreadable e) h = refl
unread s (state.Read k) h = absurd (h k refl)

-- over any file
module _ (f : List ℕ) (h : Header) where
  pub debug-empty : h.directory.debug.size ≡ 0 → empty ≡ debug_state_of f h
  unfolding debug_state_of
  debug-empty z = rw ((debug-states blake3 f h).size-zero z, le-ltb 0 h.directory.debug.size (omega arith)) (go (leb (length f) limit))
    where
      go : (b : Bool) → ◌≡◌ {A = DebugState DebugCounts} empty (cond b empty empty)
      go true = refl
      go false = refl

  pub debug-outside : (e : Fault) → (h.directory.debug.size ≡ 0 → ⊥) → refused e ≡ section_cut f h.directory.debug → outside ≡ debug_state_of f h
  unfolding debug_state_of section_part
  debug-outside e n k =
      let s : 0 < h.directory.debug.size = omega arith in
      rw (lt-ltb 0 h.directory.debug.size s) (go (leb (length f) limit) (is_inside f h.directory.debug) ((debug-states blake3 f h).not-inside s) (cut_err f h.directory.debug e k))
    where
      go : (b i : Bool) → (i ≡ false → debug_state blake3 f h ≡ outside) → refused e ≡ (need b too_long >> need i section_size_mismatch >> found h.directory.debug)
          → outside ≡ cond b (state_counts (debug_state blake3 f h)) outside
      go true true d k = never k
      go true false d k = sym (ap state_counts (d refl))
      go false i d k = refl

  -- `x` is a state, by the section's bytes
  pub debug-inside : (c : Place × List ℕ) (x : List ℕ → DebugState DebugCounts) → (h.directory.debug.size ≡ 0 → ⊥) → found c ≡ section_cut f h.directory.debug
      → x c.1 ≡ section_state h.debug_hash c.1 → x (cut f h.directory.debug) ≡ debug_state_of f h
  unfolding debug_state_of
  debug-inside c x n k e =
      let p = h.directory.debug in
      let l = part-within f p (cut_ok f p c k).part in
      let s = part-inside f p l c k in
      let a = length_cut f p s.inside in
      let b = (inside_is f p s.inside).within in
      let w : length (cut f p) ≤ hash_limit = omega arith in
      rw (le-leb _ _ l) (ap x (sym s.bytes) ∙ e ∙ ap (section_state h.debug_hash) s.bytes ∙ go (debug_fits h.debug_hash (cut f p)) (laws.debug h.debug_hash (cut f p) w) ((debug-states blake3 f h).hash-unequal (omega arith) s.inside) (section-decides blake3 f h (omega arith) s.inside))
    where
      go : (b : Bool) {c : Bool} {x : DebugState (Tables (List ℕ))} → b ≡ c → (c ≡ false → debug_state blake3 f h ≡ hash_differs) → (c ≡ true → debug_state blake3 f h ≡ x)
          → cond b (state_counts x) hash_differs ≡ state_counts (debug_state blake3 f h)
      go true i d r = sym (ap state_counts (r (sym i)))
      go false i d r = sym (ap state_counts (d (sym i)))

  -- what loading keeps of it
  pub debug-kept : {x : DebugState DebugCounts} → length f ≤ limit → x ≡ debug_state_of f h → debug_kept x ≡ debug_counts (debug_found blake3 f h)
  unfolding debug_state_of
  debug-kept l e = ap debug_kept (rw (le-leb _ _ l) at e) ∙ kept-counts (debug_state blake3 f h) ∙ ap debug_counts (debug-states blake3 f h).kept

-- The rows of the tables in force

module _ (f : List ℕ) (p : Place) where
  pub rows-nowhere : {A : Type 0} (e : Fault) (counts : A) → refused e ≡ section_cut f p → none_in_force ≡ in_force_at f p (some counts)
  unfolding section_part
  rows-nowhere {A} e counts h = go (leb (length f) limit) (is_inside f p) (cut_err f p e h)
    where
      go : (b i : Bool) → refused e ≡ (need b too_long >> need i section_size_mismatch >> found p) → none_in_force ≡ cond (b && i) (in_force_in (cut f p)) none_in_force
      go true true k = never k
      go true false k = refl
      go false i k = refl

  pub rows-there : {A : Type 0} (c : Place × List ℕ) {rows : InForce} (counts : A) → found c ≡ section_cut f p → rows ≡ in_force_in c.1 → rows ≡ in_force_at f p (some counts)
  rows-there c counts h e =
      let l = part-within f p (cut_ok f p c h).part in
      let s = part-inside f p l c h in
      e ∙ ap in_force_in s.bytes ∙ sym (rw (le-leb _ _ l, s.inside))

-- of the section that was loaded
pub rows-found : (f : List ℕ) (h : Header) {d : Option DebugCounts} → length f ≤ limit → d ≡ debug_counts (debug_found blake3 f h)
    → in_force_at f h.directory.debug d ≡ in_force_found blake3 f h
rows-found f h {d} l e = ap (in_force_at f h.directory.debug) e ∙ go (debug_found blake3 f h) refl
  where
    go : (x : Option (Tables (List ℕ))) → debug_found blake3 f h ≡ x → in_force_at f h.directory.debug (debug_counts x) ≡ in_force_with (cut f h.directory.debug) x
    go none g = refl
    go (some t) g = rw (le-leb _ _ l, (debug-read blake3 f h t g).0)
