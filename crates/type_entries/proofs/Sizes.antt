-- How many bytes tables take, and where an FB type and its fields stand.
use mathlib.Core.Path.{◌≡◌, sym, ap, ◌∙◌}
use mathlib.Core.List.{List, []}
use Prim.Native.Nat.{ℕ, zero, suc, ◌+◌, ◌*◌, ◌≤◌}
use native.Mathlib.Omega.{arith}
use lib.ListN.{length, take, drop, length-drop}
use lib.Seq.{drop-drop}
use Rattle.reading.specs.Fault.{Fault}
use Rattle.reading.specs.Reader.{got, Reader, number, many, counted}
use Rattle.reading.specs.Answer.{found, indexed}
use Rattle.reading.specs.Places.{item, step_at}
use Rattle.reading.proofs.Reading.{both}
use Rattle.reading.proofs.Width.{width-number}
use Rattle.reading.proofs.Given.{reads_at}
use Rattle.reading.proofs.Made.{made-gives}
use Rattle.reading.proofs.Tables.{cons, many-length}
use Rattle.reading.proofs.Sizes.{Takes, takes-width, takes-counted}
use Rattle.format.specs.Types.{field, FbType, fb_type, array}
use Rattle.format.specs.Lookups.{FbTypeHead, fb_type_head_of}
use Rattle.format.proofs.Answers.{never, same-found}
use Rattle.type_entries.specs.Answers.{fb_type_head}
use Rattle.type_entries.specs.Starts.{count_size, field_entry_size, fb_type_head_size, array_descriptor_size, fb_type_size, fb_types_size}
use Rattle.type_entries.specs.Stays.{fb_type_head_stays}
use Rattle.format.proofs.Widths.{field-width, array-width}

pub arrays-take : Takes (λ xs. count_size + array_descriptor_size * length xs) (counted array)
arrays-take = takes-counted (λ n. takes-width n array-width)

moved : {A : Type 0} (r : Reader A) {n k : ℕ} {x y : List ℕ} {xs ys : List A} {u v : List ℕ} → n ≡ k → x ≡ y → xs ≡ ys → u ≡ v → many n r x ≡ got xs u → many k r y ≡ got ys v
moved r p q f w e = cc

-- the fields of an FB type stand behind its head
pub fields-left : (s : List ℕ) (b : FbType) (t : List ℕ) → fb_type s ≡ got b t → (many (length b.fields) field (drop fb_type_head_size s) ≡ got b.fields t) × (fb_type_head_size ≤ length s)
unfolding fb_type
fields-left s b t e =
    let i = both (number 2 s) e in
    let n = both (number 1 i.middle) i.second in
    let r = both (number 1 n.middle) n.second in
    let f = both (many n.item field r.middle) r.second in
    let u = (width-number 2).takes s i.item i.middle i.first in
    let v = (width-number 1).takes i.middle n.item n.middle n.first in
    let w = (width-number 1).takes n.middle r.item r.middle r.first in
    let x : f.item ≡ b.fields = cc in
    let y : f.middle ≡ t = cc in
    let z : r.middle ≡ drop fb_type_head_size s = w.0 ∙ ap (drop 1) v.0 ∙ drop-drop 1 1 i.middle ∙ ap (drop 2) u.0 ∙ drop-drop 2 2 s in
    let l = many-length field n.item r.middle f.item f.middle f.first in
    let h = ap length u.0 ∙ length-drop 2 s in
    let k = ap length v.0 ∙ length-drop 1 i.middle in
    (moved field (sym l ∙ ap length x) z x y f.first, omega (arith, u.1, v.1, w.1))

-- so a head that reads lies in the section
pub head-room : (s : List ℕ) (at : ℕ) (h : FbTypeHead) (m : ℕ) → item h m ≡ step_at fb_type_head s at → at + fb_type_head_size ≤ length s
head-room s at h m e =
    let b = made-gives fb_type_head_of (fb_type (drop at s)) h (drop m s) (reads_at (fb_type_head_stays s) at e).1 in
    omega (arith, (fields-left (drop at s) b.0 (drop m s) b.1).1, length-drop at s)

fb-type-takes : Takes fb_type_size fb_type
fb-type-takes =
    record {
      takes = λ s b t e.
          let k = fields-left s b t e in
          let w = (takes-width (length b.fields) field-width).takes (drop fb_type_head_size s) b.fields t k.0 in
          let d = length-drop fb_type_head_size s in
          (w.0 ∙ drop-drop (field_entry_size * length b.fields) fb_type_head_size s, omega (arith, w.1, k.1));
    }

pub fb-types-many : (n : ℕ) → Takes fb_types_size (many n fb_type)
fb-types-many zero = record { takes = λ s bs t e. let x : bs ≡ [] = cc in (cc (ap fb_types_size x), omega (arith, ap fb_types_size x)) }
fb-types-many (suc n) =
    record {
      takes = λ s bs t e.
          let c = cons fb_type n s bs t e in
          let u = fb-type-takes.takes s c.first c.middle c.reads in
          let v = (fb-types-many n).takes c.middle c.others t c.reads-others in
          let l = ap length u.0 ∙ length-drop (fb_type_size c.first) s in
          (v.0 ∙ ap (drop (fb_types_size c.others)) u.0 ∙ drop-drop (fb_types_size c.others) (fb_type_size c.first) s ∙ ap (λ (l : List FbType). drop (fb_types_size l) s) (sym c.all), omega (arith, ap fb_types_size c.all, u.1, v.1));
    }

-- the FB type at an index stands behind those before it
pub fb-type-at : (i n : ℕ) (s : List ℕ) (bs : List FbType) (t : List ℕ) (b : FbType) (out : Fault) → many n fb_type s ≡ got bs t → indexed out bs i ≡ found b
    → (x : List ℕ) × (fb_type (drop (fb_types_size (take i bs)) s) ≡ got b x)
fb-type-at i zero s bs t b out e h = let z : bs ≡ [] = cc in never (rw z at h)
fb-type-at zero (suc n) s bs t b out e h =
    let c = cons fb_type n s bs t e in
    let z : c.first ≡ b = same-found (rw c.all at h) in
    (c.middle, c.reads ∙ ap (λ (a : FbType). got a c.middle) z)
fb-type-at (suc i) (suc n) s bs t b out e h =
    let c = cons fb_type n s bs t e in
    let p = fb-type-at i n c.middle c.others t b out c.reads-others (rw c.all at h) in
    let u = (fb-type-takes.takes s c.first c.middle c.reads).0 in
    let k = fb_types_size (take i c.others) in
    (p.0, ap (λ (l : List FbType). fb_type (drop (fb_types_size (take (suc i) l)) s)) c.all ∙ ap fb_type (sym (ap (drop k) u ∙ drop-drop k (fb_type_size c.first) s)) ∙ p.1)

pub fb-types-take : Takes (λ bs. count_size + fb_types_size bs) (counted fb_type)
fb-types-take = takes-counted fb-types-many
