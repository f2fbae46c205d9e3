-- The section from its three tables; where they stand in a section that reads.
use mathlib.Core.Path.{◌≡◌, refl, sym, ap, subst, ◌∙◌}
use mathlib.Core.List.{List, [], map}
use Prim.Native.Nat.{ℕ, ◌+◌, ◌*◌, ◌≤◌}
use native.Mathlib.Decide.{dec_le}
use native.Mathlib.Omega.{arith}
use lib.ListN.{length, drop, length-drop, length-map}
use lib.Seq.{drop-drop}
use borrow.Author.Tests.{le-ltb, lt-ltb}
use Rattle.reading.specs.Fault.{Fault}
use Rattle.reading.specs.Reader.{Read, fault, got, Reader, next, give, number, many, counted, counted_or_none}
use Rattle.reading.specs.Answer.{refused, found, item_of}
use Rattle.reading.specs.Places.{Step, stops, item, Reads, step_given, step_at, left_of, Holds}
use Rattle.reading.specs.declared.Table.{Table}
use Rattle.reading.proofs.Reading.{both}
use Rattle.reading.proofs.Made.{made-stops, made-gives, many-made}
use Rattle.reading.proofs.Local.{local-give}
use Rattle.reading.proofs.Left.{Stays, stays-local, stays-bind, stays-counted}
use Rattle.reading.proofs.Given.{reads_at}
use Rattle.reading.proofs.Parts.{same_place}
use Rattle.reading.proofs.Tables.{counted-stands}
use Rattle.format.specs.Types.{FbType, fb_type, Array, array, UserFb, user_fb, TypeTables, type_tables}
use Rattle.format.specs.Lookups.{fb_type_head_of}
use Rattle.format.proofs.Answers.{never, same-found, steps, item-got}
use Rattle.format.proofs.Readers.{local-fb-type}
use Rattle.type_entries.specs.Starts.{count_size, array_descriptor_size, fb_types_size, type_starts_of, type_starts_in}
use Rattle.type_entries.specs.Answers.{fb_type_head, table_at}
use Rattle.format.proofs.Readers.{local-array}
use Rattle.type_entries.specs.declared.Tables.{Tables}
use Rattle.type_entries.proofs.Sizes.{fb-types-take, arrays-take}

-- a section whose item is refused has not read
item-fault : {A : Type 0} (x : Read A) (f : Fault) → refused f ≡ item_of x → x ≡ fault f
item-fault (fault g) f e = cc
item-fault (got a rest) f e = never e

-- the head of each FB type, or the whole of it: the same table
heads-table : (x : List ℕ) → table_at 0 (counted fb_type_head) x ≡ table_at 0 (counted fb_type) x
heads-table x = go (number 2 x)
  where
    table_of : {A : Type 0} → Read (List A) → Read Table
    table_of y = next y (λ xs. give (record { at = 0 + count_size; count = length xs }))

    last : (y : Read (List FbType)) → table_of (next y (λ bs. give (map fb_type_head_of bs))) ≡ table_of y
    last (fault f) = refl
    last (got bs z) = rw (length-map bs fb_type_head_of)

    go : (y : Read ℕ) → table_of (next y (λ n. many n fb_type_head)) ≡ table_of (next y (λ n. many n fb_type))
    go (fault f) = refl
    go (got n z) = rw (many-made fb_type_head_of fb_type n z) (last (many n fb_type z))

-- the first fault of the three tables, or all three
module _ (s : List ℕ) where
  -- the entries of a table that was read, or the fault that it stops with
  entries-of : {A : Type 0} (r : Reader (List A)) (at : ℕ) (t : Table) (rest : List ℕ) → table_at at r (drop at s) ≡ got t rest → (xs : List A) × (r (drop at s) ≡ got xs rest) × (record { at = at + count_size; count = length xs } ≡ t)
  entries-of r at t rest e = made-gives (λ xs. record { at = at + count_size; count = length xs }) (r (drop at s)) t rest e

  stop-of : {A : Type 0} (r : Reader (List A)) (at : ℕ) (f : Fault) → table_at at r (drop at s) ≡ fault f → r (drop at s) ≡ fault f
  stop-of r at f e = made-stops (λ xs. record { at = at + count_size; count = length xs }) (r (drop at s)) f e

  stays-table : {A : Type 0} {r : Reader A} (at : ℕ) → Stays s r → Stays s (table_at at (counted r))
  stays-table at h = stays-bind s (stays-counted s h) λ xs. stays-local s (local-give (record { at = at + count_size; count = length xs }))

  fb-types-read : (x : Step Table) → x ≡ step_at (table_at 0 (counted fb_type_head)) s 0 → Reads (table_at 0 (counted fb_type)) s 0 x
  unfolding step_at
  fb-types-read x e = reads_at (stays-table 0 (stays-local s local-fb-type)) 0 (e ∙ ap (step_given s) (heads-table s))

  arrays-read : (a : ℕ) (x : Step Table) → x ≡ step_at (table_at a (counted array)) s a → Reads (table_at a (counted array)) s a x
  arrays-read a x e = reads_at (stays-table a (stays-local s local-array)) a e

  pub fb-types-stop : (f : Fault) → stops f ≡ step_at (table_at 0 (counted fb_type_head)) s 0 → refused f ≡ type_starts_in s
  unfolding type_tables
  fb-types-stop f e = rw (stop-of (counted fb_type) 0 f (fb-types-read (stops f) e))

  module _ (fbs : Table) (a : ℕ) (p : item fbs a ≡ step_at (table_at 0 (counted fb_type_head)) s 0) where
    fb-types-are : (bs : List FbType) × (counted fb_type s ≡ got bs (drop a s)) × (record { at = 0 + count_size; count = length bs } ≡ fbs)
    fb-types-are = entries-of (counted fb_type) 0 fbs (drop a s) (fb-types-read (item fbs a) p).1

    pub arrays-stop : (f : Fault) → stops f ≡ step_at (table_at a (counted array)) s a → refused f ≡ type_starts_in s
    unfolding type_tables
    arrays-stop f e = rw (fb-types-are.1, stop-of (counted array) a f (arrays-read a (stops f) e))

    module _ (rs : Table) (u : ℕ) (q : item rs u ≡ step_at (table_at a (counted array)) s a) where
      arrays-are : (xs : List Array) × (counted array (drop a s) ≡ got xs (drop u s)) × (record { at = a + count_size; count = length xs } ≡ rs)
      arrays-are = entries-of (counted array) a rs (drop u s) (arrays-read a (item rs u) q).1

      pub arrays-within : u ≤ length s
      arrays-within = (arrays-read a (item rs u) q).0

      pub user-fbs-stop : (f : Fault) → refused f ≡ item_of (table_at u (counted_or_none user_fb) (drop u s)) → refused f ≡ type_starts_in s
      unfolding type_tables
      user-fbs-stop f e = rw (fb-types-are.1, arrays-are.1, stop-of (counted_or_none user_fb) u f (item-fault (table_at u (counted_or_none user_fb) (drop u s)) f e))

      pub tables-whole : (us : Table) → found us ≡ item_of (table_at u (counted_or_none user_fb) (drop u s)) → found (record { fb_types = fbs; arrays = rs; user_fbs = us }) ≡ type_starts_in s
      unfolding type_tables
      tables-whole us e =
          let g = item-got (table_at u (counted_or_none user_fb) (drop u s)) us (sym e) in
          let x = fb-types-are in
          let y = arrays-are in
          let z = entries-of (counted_or_none user_fb) u us g.0 g.1 in
          let j = fb-types-take.takes s x.0 (drop a s) x.1 in
          let k = arrays-take.takes (drop a s) y.0 (drop u s) y.1 in
          let d = length-drop a s in
          let i = (fb-types-read (item fbs a) p).0 in
          let b : a ≡ count_size + fb_types_size x.0 = same_place s a _ i j.1 j.0 in
          let c : u ≡ a + (count_size + array_descriptor_size * length y.0) = same_place s u _ arrays-within (omega (arith, k.1)) (k.0 ∙ drop-drop _ a s) in
          let v : a + count_size ≡ 2 * count_size + fb_types_size x.0 = omega arith in
          let w : u + count_size ≡ 3 * count_size + fb_types_size x.0 + array_descriptor_size * length y.0 = omega arith in
          rw (x.1, y.1, z.1) (cc (x.2, y.2, z.2))

-- A section that reads

-- its tables stand at `u`
pub record Standing (s : List ℕ) (t : TypeTables) (u : Tables) : Type 0 where
  pub fb_types : Holds fb_type s u.fb_types t.fb_types
  pub arrays : Holds array s u.arrays t.arrays
  pub rest : List ℕ
  pub user_fbs : left_of user_fb s u.user_fbs ≡ got t.user_fbs rest

behind : {A : Type 0} (r : Reader A) (s : List ℕ) (at to : ℕ) (xs : List A) (x : List ℕ) → at + count_size ≡ to → at ≤ length s → counted r (drop at s) ≡ got xs x
    → Holds r s (record { at = to; count = length xs }) xs
behind r s at to xs x e h c = subst (λ (i : ℕ). Holds r s (record { at = i; count = length xs }) xs) e (counted-stands r s at xs x h c)

users-behind : (s : List ℕ) (at to : ℕ) (us : List UserFb) (x : List ℕ) → at + count_size ≡ to → at ≤ length s → counted_or_none user_fb (drop at s) ≡ got us x
    → (rest : List ℕ) × (left_of user_fb s (record { at = to; count = length us }) ≡ got us rest)
users-behind s at to us x e h c = go (dec_le (at + count_size) (length s))
  where
    go : Dec (at + count_size ≤ length s) → (rest : List ℕ) × (left_of user_fb s (record { at = to; count = length us }) ≡ got us rest)
    go (yes i) =
        let d = length-drop at s in
        let k = behind user_fb s at to us x e h (rw (le-ltb (length (drop at s)) count_size (omega arith)) at c) in
        (k.rest, k.reads)
    go (no i) =
        let d = length-drop at s in
        let g = rw (lt-ltb (length (drop at s)) count_size (omega arith)) at c in
        let z : us ≡ [] = cc in
        rw z (drop to s, refl)

standing-of : (s : List ℕ) (bs : List FbType) (rs : List Array) (us : List UserFb) (x y z : List ℕ) → counted fb_type s ≡ got bs x → counted array x ≡ got rs y
    → counted_or_none user_fb y ≡ got us z → Standing s (record { fb_types = bs; arrays = rs; user_fbs = us }) (type_starts_of (record { fb_types = bs; arrays = rs; user_fbs = us }))
standing-of s bs rs us x y z p q r =
    let j = fb-types-take.takes s bs x p in
    let k = arrays-take.takes x rs y q in
    let l = ap length j.0 ∙ length-drop (count_size + fb_types_size bs) s in
    let w : y ≡ drop (count_size + fb_types_size bs + (count_size + array_descriptor_size * length rs)) s = k.0 ∙ ap (drop (count_size + array_descriptor_size * length rs)) j.0 ∙ drop-drop (count_size + array_descriptor_size * length rs) (count_size + fb_types_size bs) s in
    let u = users-behind s (count_size + fb_types_size bs + (count_size + array_descriptor_size * length rs)) (3 * count_size + fb_types_size bs + array_descriptor_size * length rs) us z (omega arith) (omega (arith, k.1, j.1)) (sym (ap (counted_or_none user_fb) w) ∙ r) in
    record {
      fb_types = behind fb_type s 0 count_size bs x refl (omega arith) p;
      arrays = behind array s (count_size + fb_types_size bs) (2 * count_size + fb_types_size bs) rs y (omega arith) j.1 (sym (ap (counted array) j.0) ∙ q);
      rest = u.0;
      user_fbs = u.1;
    }

pub standing : (s : List ℕ) (t : TypeTables) → item_of (type_tables s) ≡ found t → Standing s t (type_starts_of t)
unfolding type_tables
standing s t h =
    let e = item-got (type_tables s) t h in
    let p = both (counted fb_type s) e.1 in
    let q = both (counted array p.middle) p.second in
    let r = both (counted_or_none user_fb q.middle) q.second in
    let z : record { fb_types = p.item; arrays = q.item; user_fbs = r.item } ≡ t = cc in
    subst (λ v. Standing s v (type_starts_of v)) z (standing-of s p.item q.item r.item p.middle q.middle r.middle p.first q.first r.first)

-- by what the section's reader answered
pub record Readable (s : List ℕ) (u : Tables) : Type 0 where
  pub all : TypeTables
  pub is : item_of (type_tables s) ≡ found all
  pub starts : type_starts_of all ≡ u
  pub stand : Standing s all u

pub readable : (s : List ℕ) (u : Tables) → found u ≡ type_starts_in s → Readable s u
readable s u h =
    let k = steps (item_of (type_tables s)) (sym h) in
    record { all = k.item; is = k.first; starts = same-found k.second; stand = subst (Standing s k.item) (same-found k.second) (standing s k.item k.first) }
