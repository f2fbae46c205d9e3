-- The entries of the type section and its tables: their widths, and what stands at a place.
use mathlib.Core.Path.{◌≡◌, refl, sym, ◌∙◌}
use mathlib.Core.Bool.{Bool, true, false}
use mathlib.Core.List.{List}
use Prim.Native.Nat.{ℕ, ◌+◌, ◌-◌, ◌≤◌, ◌<◌}
use native.Mathlib.Omega.{arith}
use lib.Dec.{leb}
use lib.ListN.{length, drop, length-drop}
use borrow.Author.Tests.{le-ltb, lt-ltb}
use Rattle.reading.specs.Fault.{Fault, short_input}
use Rattle.reading.specs.Numbers.{le_at}
use Rattle.reading.specs.Reader.{fault, got, Reader, next, ◌>>◌, give, check, many, counted, counted_or_none}
use Rattle.reading.specs.Answer.{refused, found, ◌>>◌ as ◌then◌, need, item_of}
use Rattle.reading.specs.Places.{Step, stops, item, Reads, step_at, Way, stops_by, on_to, Goes, way_at}
use Rattle.reading.proofs.Reading.{then-then, number_at}
use Rattle.reading.proofs.Width.{Needs, needs-none, needs-bind, fixed_number}
use Rattle.reading.proofs.Left.{Stays, stays-many, stays-local}
use Rattle.reading.proofs.Given.{step-at, goes_at}
use Rattle.reading.proofs.Passing.{counted-short, counted-as}
use Rattle.reading.proofs.Tables.{many-length}
use Rattle.format.specs.Faults.{invalid_field_type, invalid_array_stride}
use Rattle.format.specs.Types.{field, fb_type, Array, stride_fits, array, UserFb, user_fb}
use Rattle.format.specs.Lookups.{fb_type_head_of}
use Rattle.format.proofs.Answers.{never}
use Rattle.base.specs.Small.{field_type_of}
use Rattle.type_entries.specs.Answers.{fb_type_head, stride_checked, table_at}
use Rattle.type_entries.specs.Starts.{count_size, field_entry_size, fb_type_head_size, array_descriptor_size, user_fb_descriptor_size}
use Rattle.format.proofs.Readers.{local-field}

-- Widths

fb-type-needs : Needs fb_type_head_size fb_type
unfolding fb_type
fb-type-needs = needs-bind (fixed_number 2) λ i. needs-bind (fixed_number 1) λ n. needs-bind (fixed_number 1) λ r. needs-none _

pub head-needs : Needs fb_type_head_size fb_type_head
head-needs x h = rw (fb-type-needs x h)

-- Fields

module _ (s : List ℕ) (at : ℕ) (h : at + field_entry_size ≤ length s) where
  field-head : field (drop at s) ≡ (check (leb (le_at 1 s at) 10) (invalid_field_type (le_at 1 s at)) >> give (record { kind = le_at 1 s at; extra = le_at 2 s (at + 2) })) (drop (at + field_entry_size) s)
  unfolding field
  field-head =
      rw (number_at 1 s at (at + 1) refl (omega arith), number_at 1 s (at + 1) (at + 2) (omega arith) (omega arith), number_at 2 s (at + 2) (at + field_entry_size) (omega arith) h)

  pub field-stop : (f : Fault) → refused f ≡ field_type_of (le_at 1 s at) → field (drop at s) ≡ fault f
  field-stop f e = go (leb (le_at 1 s at) 10) refl e
    where
      go : (b : Bool) → leb (le_at 1 s at) 10 ≡ b → refused f ≡ (need b (invalid_field_type (le_at 1 s at)) then found (le_at 1 s at)) → field (drop at s) ≡ fault f
      go true i e = never e
      go false i e = let z : f ≡ invalid_field_type (le_at 1 s at) = cc in rw (field-head, i, z)

  pub field-whole : (n : ℕ) → found n ≡ field_type_of (le_at 1 s at) → field (drop at s) ≡ got (record { kind = n; extra = le_at 2 s (at + 2) }) (drop (at + field_entry_size) s)
  field-whole n e = go (leb (le_at 1 s at) 10) refl e
    where
      go : (b : Bool) → leb (le_at 1 s at) 10 ≡ b → found n ≡ (need b (invalid_field_type (le_at 1 s at)) then found (le_at 1 s at))
          → field (drop at s) ≡ got (record { kind = n; extra = le_at 2 s (at + 2) }) (drop (at + field_entry_size) s)
      go true i e = let z : n ≡ le_at 1 s at = cc in rw (field-head, i, z)
      go false i e = never (sym e)

-- Arrays

module _ (s : List ℕ) (at : ℕ) (a : Array) (h : at + array_descriptor_size ≤ length s) (k : a.kind ≡ le_at 1 s at) (n : a.elements ≡ le_at 4 s (at + 2)) (e : a.extra ≡ le_at 2 s (at + 6))
    (t : a.stride ≡ le_at 4 s (at + 8)) where
  array-head : array (drop at s) ≡ (check (stride_fits a.kind a.extra a.stride) (invalid_array_stride a.kind a.stride) >> give a) (drop (at + array_descriptor_size) s)
  unfolding array
  array-head =
      rw (
        number_at 1 s at (at + 1) refl (omega arith),
        number_at 1 s (at + 1) (at + 2) (omega arith) (omega arith),
        number_at 4 s (at + 2) (at + 6) (omega arith) (omega arith),
        number_at 2 s (at + 6) (at + 8) (omega arith) (omega arith),
        number_at 4 s (at + 8) (at + array_descriptor_size) (omega arith) h,
        ← k,
        ← n,
        ← e,
        ← t,
      )

  pub array-stop : (f : Fault) → refused f ≡ stride_checked a → array (drop at s) ≡ fault f
  array-stop f c = array-head ∙ go (stride_fits a.kind a.extra a.stride) c
    where
      go : (ok : Bool) → refused f ≡ need ok (invalid_array_stride a.kind a.stride) → (check ok (invalid_array_stride a.kind a.stride) >> give a) (drop (at + array_descriptor_size) s) ≡ fault f
      go true c = never c
      go false c = cc

  pub array-whole : found tt ≡ stride_checked a → array (drop at s) ≡ got a (drop (at + array_descriptor_size) s)
  array-whole c = array-head ∙ go (stride_fits a.kind a.extra a.stride) c
    where
      go : (ok : Bool) → found tt ≡ need ok (invalid_array_stride a.kind a.stride) → (check ok (invalid_array_stride a.kind a.stride) >> give a) (drop (at + array_descriptor_size) s) ≡ got a (drop (at + array_descriptor_size) s)
      go true c = refl
      go false c = never (sym c)

-- User FBs

pub user-fb-whole : (s : List ℕ) (at : ℕ) (u : UserFb) → at + user_fb_descriptor_size ≤ length s → u.id ≡ le_at 2 s at → u.function ≡ le_at 2 s (at + 2) → u.variable_offset ≡ le_at 2 s (at + 4)
    → u.field_count ≡ le_at 1 s (at + 6) → user_fb (drop at s) ≡ got u (drop (at + user_fb_descriptor_size) s)
unfolding user_fb
user-fb-whole s at u h i f o n =
    rw (
      number_at 2 s at (at + 2) refl (omega arith),
      number_at 2 s (at + 2) (at + 4) (omega arith) (omega arith),
      number_at 2 s (at + 4) (at + 6) (omega arith) (omega arith),
      number_at 1 s (at + 6) (at + 7) (omega arith) (omega arith),
      number_at 1 s (at + 7) (at + user_fb_descriptor_size) (omega arith) h,
      ← i,
      ← f,
      ← o,
      ← n,
    )

-- An item that is made of how many others stand behind it, by where a walk over those goes

abbrev pub item_by : {B : Type 0} → B → Way → Step B
item_by b (stops_by f) = stops f
item_by b (on_to m) = item b m

by-walk : {A B : Type 0} (f : ℕ → B) (q : Reader A) (r : Reader B) (s : List ℕ) (at to n : ℕ) → Stays s q → r (drop at s) ≡ next (many n q (drop to s)) (λ xs. give (f (length xs)))
    → (w : Way) → w ≡ way_at (many n q) s to → item_by (f n) w ≡ step_at r s at
by-walk f q r s at to n h e w g = step-at r s at (item_by (f n) w) (go w (goes_at (stays-many s n h) to g))
  where
    go : (w : Way) → Goes (many n q) s to w → Reads r s at (item_by (f n) w)
    go (stops_by d) g = rw (e, g)
    go (on_to m) g = (g.0, rw (e, g.1.1, many-length q n (drop to s) g.1.0 (drop m s) g.1.1))

-- an FB type by its head; a table by its count
pub head-walk : (s : List ℕ) (at id n : ℕ) → at + fb_type_head_size ≤ length s → id ≡ le_at 2 s at → n ≡ le_at 1 s (at + 2) → (w : Way) → w ≡ way_at (many n field) s (at + fb_type_head_size)
    → item_by (record { id = id; field_count = n }) w ≡ step_at fb_type_head s at
unfolding fb_type
head-walk s at id n h i k =
    by-walk (λ c. record { id = id; field_count = c }) field fb_type_head s at (at + fb_type_head_size) n ((stays-local s local-field))
    (rw (
      number_at 2 s at (at + 2) refl (omega arith),
      number_at 1 s (at + 2) (at + 3) (omega arith) (omega arith),
      number_at 1 s (at + 3) (at + fb_type_head_size) (omega arith) h,
      ← i,
      ← k,
    ) (then-then (many n field (drop (at + fb_type_head_size) s)) (λ fs. give (record { id = id; fields = fs })) (λ b. give (fb_type_head_of b))))

module _ {A : Type 0} (r : Reader A) (s : List ℕ) (at : ℕ) where
  pub table-short : length s - at < count_size → stops short_input ≡ step_at (table_at at (counted r)) s at
  table-short h = step-at (table_at at (counted r)) s at (stops short_input) (rw (counted-short r s at h))

  pub table-walk : (n : ℕ) → Stays s r → at + count_size ≤ length s → n ≡ le_at 2 s at → (w : Way) → w ≡ way_at (many n r) s (at + count_size)
      → item_by (record { at = at + count_size; count = n }) w ≡ step_at (table_at at (counted r)) s at
  table-walk n k h e = by-walk (λ c. record { at = at + count_size; count = c }) r (table_at at (counted r)) s at (at + count_size) n k (rw (counted-as r s at n h e))

-- the table of user FBs: none, or a table that needs no walk
pub users-none : (s : List ℕ) (at : ℕ) → length s - at < count_size → found (record { at = at + count_size; count = 0 }) ≡ item_of (table_at at (counted_or_none user_fb) (drop at s))
users-none s at h = let d = length-drop at s in rw (lt-ltb (length (drop at s)) count_size (omega arith))

module _ (s : List ℕ) (at count : ℕ) (h : at + count_size ≤ length s) (n : count ≡ le_at 2 s at) where
  users-some : counted_or_none user_fb (drop at s) ≡ many count user_fb (drop (at + count_size) s)
  users-some = let d = length-drop at s in rw (le-ltb (length (drop at s)) count_size (omega arith)) (counted-as user_fb s at count h n)

  pub users-short : (f : Fault) → Goes (many count user_fb) s (at + count_size) (stops_by f) → refused f ≡ item_of (table_at at (counted_or_none user_fb) (drop at s))
  users-short f e = rw (users-some, e)

  pub users-whole : (k : ℕ) → Goes (many count user_fb) s (at + count_size) (on_to k) → found (record { at = at + count_size; count = count }) ≡ item_of (table_at at (counted_or_none user_fb) (drop at s))
  users-whole k q = rw (users-some, q.1.1, many-length user_fb count (drop (at + count_size) s) q.1.0 (drop k s) q.1.1)
