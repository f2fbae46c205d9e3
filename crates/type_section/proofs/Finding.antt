-- Lookups and steps in the section's bytes, by what the section's reader answered.
use mathlib.Core.Path.{◌≡◌, refl, sym, ap, subst, ◌∙◌}
use mathlib.Core.Bool.{Bool, true, false, cond}
use mathlib.Core.List.{List, map}
use Prim.Native.Nat.{ℕ, ◌+◌, ◌≤◌, ◌<◌}
use native.Mathlib.Omega.{arith}
use lib.Dec.{eqb}
use lib.ListN.{length, take, drop, length-drop}
use lib.Seq.{drop-drop}
use Rattle.reading.specs.Fault.{Fault}
use Rattle.reading.specs.Reader.{Read, fault, got, next, give, many}
use Rattle.reading.specs.Answer.{Got, refused, found, ◌>>=◌, item_of, indexed}
use Rattle.reading.specs.Places.{stops, item, step_at, Way, stops_by, on_to, Goes, way_given, way_at, left_of, Next, ends, faulty, entry, next_of, step_of}
use Rattle.reading.specs.declared.Table.{Table}
use Rattle.reading.proofs.Parts.{same_place}
use Rattle.reading.proofs.Left.{stays-local, stays-many}
use Rattle.reading.proofs.Given.{reads_at, goes_at}
use Rattle.reading.proofs.Made.{made-stops, made-gives, many-made}
use Rattle.reading.proofs.Tables.{At, many-take, at-picked, at_reads, holds_walked, holds-stops, holds-out}
use Rattle.format.specs.Faults.{no_array, no_entry}
use Rattle.format.specs.Types.{Field, field, FbType, fb_type, Array, array, UserFb, user_fb, TypeTables, type_tables}
use Rattle.format.specs.Lookups.{FbTypeHead, fb_type_head_of, fb_type_of, field_of}
use Rattle.format.proofs.Answers.{same-found, steps, renamed}
use Rattle.format.proofs.Readers.{local-fb-type}
use Rattle.type_entries.specs.Starts.{count_size, fb_type_head_size, fb_types_size, head_fields, fields_start, type_starts_in}
use Rattle.type_entries.specs.Answers.{fb_type_head}
use Rattle.type_entries.specs.Stays.{fb_type_head_stays}
use Rattle.type_entries.specs.declared.Tables.{Tables}
use Rattle.type_entries.proofs.Sizes.{fields-left, fb-types-many, fb-type-at}
use Rattle.type_entries.proofs.Standing.{standing, readable}
use Rattle.type_section.specs.Lookups.{FbTypeEntry, fb_type_entry, fb_type_of_section, field_of_section, array_of_section, user_fb_of_section, fb_type_step_of, with_fields}

-- an FB type at a place, by its head
abbrev pub head_entry : ℕ → FbTypeHead → FbTypeEntry
head_entry at h = record { head = h; fields = head_fields at h }

-- a walk over heads is one over FB types
pub heads_way : (s : List ℕ) (n at : ℕ) → way_at (many n fb_type_head) s at ≡ way_at (many n fb_type) s at
unfolding way_at
heads_way s n at = rw (many-made fb_type_head_of fb_type n (drop at s)) (go (many n fb_type (drop at s)))
  where
    go : (y : Read (List FbType)) → way_given s (next y (λ bs. give (map fb_type_head_of bs))) ≡ way_given s y
    go (fault f) = refl
    go (got bs rest) = refl

-- The section `s`, whose tables stand at `u`

module _ (s : List ℕ) (u : Tables) (e : found u ≡ type_starts_in s) where
  module _ (i : ℕ) where
    pub array-is : (x : Got Array) → ((xs : List Array) (rest : List ℕ) → left_of array s u.arrays ≡ got xs rest → x ≡ indexed no_array xs i) → x ≡ array_of_section s i
    array-is x h = let q = readable s u e in rw q.is (h q.all.arrays q.stand.arrays.rest q.stand.arrays.reads)

    pub user-fb-is : (x : Got UserFb) → ((xs : List UserFb) (rest : List ℕ) → left_of user_fb s u.user_fbs ≡ got xs rest → x ≡ indexed no_entry xs i) → x ≡ user_fb_of_section s i
    user-fb-is x h = let q = readable s u e in rw q.is (h q.all.user_fbs q.stand.rest q.stand.user_fbs)

    -- FB types differ in size: the walk over those before it ends where the FB type stands
    pub fb-type-out : u.fb_types.count ≤ i → refused no_entry ≡ fb_type_of_section s i
    fb-type-out l = let q = readable s u e in rw (q.is, holds-out fb_type s u.fb_types q.all.fb_types q.stand.fb_types i no_entry l)

    -- so where it goes, reading the FB types goes
    heads-go : (w : Way) → w ≡ way_at (many i fb_type_head) s u.fb_types.at → Goes (many i fb_type) s u.fb_types.at w
    heads-go w g = goes_at (stays-many s i (stays-local s local-fb-type)) u.fb_types.at (g ∙ heads_way s i u.fb_types.at)

    module _ (l : i < u.fb_types.count) where
      pub fb-type-passed : {B : Type 0} (f : Fault) → stops_by f ≡ way_at (many i fb_type_head) s u.fb_types.at → B
      fb-type-passed f g =
          let q = readable s u e in
          absurd (holds-stops fb_type s u.fb_types q.all.fb_types q.stand.fb_types i f (omega arith) (heads-go (stops_by f) g))

      module _ (m : ℕ) (g : on_to m ≡ way_at (many i fb_type_head) s u.fb_types.at) where
        fb-type-place : m ≡ count_size + fb_types_size (take i (readable s u e).all.fb_types)
        fb-type-place =
            let q = readable s u e in
            let w = heads-go (on_to m) g in
            let h = q.stand.fb_types.within in
            let a : count_size ≡ u.fb_types.at = ap (λ (v : Tables). v.fb_types.at) q.starts in
            let x = drop u.fb_types.at s in
            let z = many-take fb_type i u.fb_types.count x (drop m s) q.all.fb_types w.1.0 q.stand.fb_types.rest (omega arith) q.stand.fb_types.reads w.1.1 in
            let k = (fb-types-many i).takes x w.1.0 (drop m s) w.1.1 in
            let c = same_place s m (u.fb_types.at + fb_types_size w.1.0) w.0 (omega (arith, k.1, length-drop u.fb_types.at s)) (k.0 ∙ drop-drop (fb_types_size w.1.0) u.fb_types.at s) in
            omega (arith, ap fb_types_size z)

        -- the FB type that stands there
        here : At fb_type (readable s u e).all.fb_types i (drop m s)
        here = let q = readable s u e in holds_walked fb_type s u.fb_types q.all.fb_types q.stand.fb_types i m l (heads-go (on_to m) g)

        pub fb-type-reads : {B : Type 0} (f : Fault) → stops f ≡ step_at fb_type_head s m → B
        fb-type-reads f d = absurd (at_reads fb_type here f (made-stops fb_type_head_of (fb_type (drop m s)) f (reads_at (fb_type_head_stays s) m d)))

        pub fb-type-found : (h : FbTypeHead) (n : ℕ) → item h n ≡ step_at fb_type_head s m → found (head_entry m h) ≡ fb_type_of_section s i
        fb-type-found h n d =
            let q = readable s u e in
            let b = made-gives fb_type_head_of (fb_type (drop m s)) h (drop n s) (reads_at (fb_type_head_stays s) m d).1 in
            let p = at-picked fb_type here b.0 (drop n s) b.1 no_entry in
            rw (q.is, p) (ap (λ (y : FbTypeHead). found (head_entry m y)) (sym b.2) ∙ ap (λ (y : ℕ). found (fb_type_entry y b.0)) fb-type-place)

-- What follows from the FB type that is found

-- its head
pub head-is : (s : List ℕ) (i : ℕ) (x : Got FbTypeEntry) → x ≡ fb_type_of_section s i → (x >>= λ b. found b.head) ≡ (item_of (type_tables s) >>= fb_type_of i)
head-is s i x h = ap (λ (y : Got FbTypeEntry). y >>= λ b. found b.head) h ∙ heads (item_of (type_tables s))
  where
    heads : (y : Got TypeTables) → ((y >>= λ t. indexed no_entry t.fb_types i >>= λ b. found (fb_type_entry (count_size + fb_types_size (take i t.fb_types)) b)) >>= λ b. found b.head) ≡ (y >>= fb_type_of i)
    heads (refused f) = refl
    heads (found t) = renamed (fb_type_entry (count_size + fb_types_size (take i t.fb_types))) (λ b. found b.head) (λ b. found (fb_type_head_of b)) (λ b. refl) (indexed no_entry t.fb_types i)

-- the fields of an FB type stand behind its head
pub fields-hold : (s : List ℕ) (at : ℕ) (b : FbType) (t : List ℕ) → fb_type (drop at s) ≡ got b t → left_of field s (fields_start at b) ≡ got b.fields t
fields-hold s at b t e = ap (many (length b.fields) field) (sym (drop-drop fb_type_head_size at s)) ∙ (fields-left (drop at s) b t e).0

pub field-is : (s : List ℕ) (i j : ℕ) (x : FbTypeEntry) → found x ≡ fb_type_of_section s i
    → (y : Got Field) → ((xs : List Field) (rest : List ℕ) → left_of field s x.fields ≡ got xs rest → y ≡ indexed no_entry xs j) → y ≡ field_of_section s i j
field-is s i j x h y ask =
    let k = steps (item_of (type_tables s)) (sym h) in
    let bs = k.item.fb_types in
    let q = steps (indexed no_entry bs i) k.second in
    let b = q.item in
    let d = (standing s k.item k.first).fb_types in
    let a = fb-type-at i (length bs) (drop count_size s) bs d.rest b no_entry d.reads q.first in
    let f = fields-hold s (count_size + fb_types_size (take i bs)) b a.0 (ap fb_type (sym (drop-drop (fb_types_size (take i bs)) count_size s)) ∙ a.1) in
    ask b.fields a.0 (subst (λ (z : FbTypeEntry). left_of field s z.fields ≡ got b.fields a.0) (same-found q.second) f)
    ∙ sym (ap (λ (z : Got TypeTables). z >>= field_of i j) k.first ∙ ap (λ (z : Got FbType). z >>= λ v. indexed no_entry v.fields j) q.first)

-- A step over an FB type, by the step over its head

abbrev pub with_heads : Table → Next FbTypeHead → Next FbTypeEntry
with_heads t ends = ends
with_heads t (faulty f) = faulty f
with_heads t (entry h u) = entry (head_entry t.at h) u

pub fb-type-step : (s : List ℕ) (t : Table) (x : Next FbTypeHead) → x ≡ step_of fb_type_head s t → with_heads t x ≡ fb_type_step_of s t
unfolding step_of
fb-type-step s t x e = ap (with_heads t) e ∙ go (eqb t.count 0) (fb_type (drop t.at s))
  where
    go : (z : Bool) (y : Read FbType) → with_heads t (cond z ends (next_of s t (next y (λ b. give (fb_type_head_of b))))) ≡ with_fields t (cond z ends (next_of s t y))
    go true y = refl
    go false (fault f) = refl
    go false (got b rest) = refl

-- the head lies in the section
pub step-room : (s : List ℕ) (t : Table) (h : FbTypeHead) (u : Table) → entry h u ≡ step_of fb_type_head s t → t.at + fb_type_head_size ≤ length s
unfolding step_of
step-room s t h u e = go (eqb t.count 0) (fb_type (drop t.at s)) refl e
  where
    go : (z : Bool) (y : Read FbType) → fb_type (drop t.at s) ≡ y → entry h u ≡ cond z ends (next_of s t (next y (λ b. give (fb_type_head_of b)))) → t.at + fb_type_head_size ≤ length s
    go true y d e = absurd (let z : ◌≡◌ {A = ℕ} 0 1 = cc in omega arith)
    go false (fault f) d e = absurd (let z : ◌≡◌ {A = ℕ} 0 1 = cc in omega arith)
    go false (got b rest) d e = omega (arith, (fields-left (drop t.at s) b rest d).1, length-drop t.at s)
