-- The entry of the constant pool at a place of the section: what each test of the code implies for it, and what is kept of it.
use mathlib.Core.Path.{◌≡◌, refl, sym, ap, subst, ◌∙◌}
use mathlib.Core.Bool.{Bool, true, false, not}
use mathlib.Core.List.{List, ◌++◌}
use Prim.Native.Nat.{ℕ, ◌+◌, ◌-◌, ◌≤◌, ◌<◌}
use native.Mathlib.Decide.{dec_le}
use native.Mathlib.Omega.{arith}
use lib.Dec.{leb}
use lib.ListN.{length, drop, replicate, length-drop}
use Rattle.reading.specs.Fault.{Fault, short_input}
use Rattle.reading.specs.Numbers.{le_at, bytes_le}
use Rattle.reading.specs.Reader.{fault, got, Reader, ◌>>=◌, ◌>>◌, give, check, left, bytes}
use Rattle.reading.specs.Answer.{refused, found}
use Rattle.reading.proofs.Reading.{number_at, bytes-at, bytes-short}
use Rattle.reading.proofs.Reading as read
use Rattle.reading.proofs.Parts.{length_part}
use Rattle.reading.proofs.Width.{Needs, needs-none, needs-bind, fixed_number}
use Rattle.format.specs.Faults.{invalid_constant_type}
use Rattle.format.specs.Parts.{Place, Keep, part, by_place}
use Rattle.format.specs.Constants.{Kept, Constant, number, string, is_number, size_fits, kept_of, constant}
use Rattle.format.proofs.Answers.{never}
use Rattle.base.specs.Small.{const_type_of}
use Rattle.constant_pool.specs.Answers.{kept_in, KeptEnds}
use Rattle.constant_pool.specs.Lookups.{kept_over}
use Rattle.constant_pool.specs.declared.Kept as declared
use Rattle.constant_pool.specs.declared.Kept.TheVariants as kept

module _ {T : Type 0} (keep : Keep T) where
  pub constant-short : Needs 4 (constant keep)
  unfolding constant
  constant-short = needs-bind (fixed_number 1) (λ k. needs-bind (fixed_number 1) (λ t. needs-bind (fixed_number 2) (λ n. needs-none _)))

  -- an entry's bytes, behind its head
  body : ℕ → ℕ → Reader (Constant T)
  body kind size = bytes size >>= λ b. left >>= λ behind. give (record { kind = kind; kept = kept_of keep kind b behind })

  module _ (s : List ℕ) (at size : ℕ) (h : at + 4 ≤ length s) (n : size ≡ le_at 2 s (at + 2)) where
    -- behind the head
    constant-head : (kind : ℕ) → kind ≡ le_at 1 s at → constant keep (drop at s)
        ≡ (check (leb kind 7) (invalid_constant_type kind) >> (check (size_fits kind size) (invalid_constant_type kind) >> body kind size)) (drop (at + 4) s)
    unfolding constant body
    constant-head kind k =
        rw (
          number_at 1 s at (at + 1) refl (omega arith),
          number_at 1 s (at + 1) (at + 2) (omega arith) (omega arith),
          number_at 2 s (at + 2) (at + 4) (omega arith) h,
          k,
          n,
        )

    -- a type that is refused
    pub constant-type : (v : ℕ) (f : Fault) → v ≡ le_at 1 s at → refused f ≡ const_type_of v → constant keep (drop at s) ≡ fault f
    constant-type v f k e = go (leb v 7) refl e
      where
        go : (z : Bool) → leb v 7 ≡ z → refused f ≡ const_type_of v → constant keep (drop at s) ≡ fault f
        go true z e = never (rw z at e)
        go false z e = let y = rw z at e in let x : invalid_constant_type v ≡ f = cc in rw (constant-head v k, z) (ap fault x)

    -- a type that is good
    module _ (v kind : ℕ) (k : v ≡ le_at 1 s at) (e : found kind ≡ const_type_of v) where
      constant-good : constant keep (drop at s) ≡ (check (size_fits kind size) (invalid_constant_type kind) >> body kind size) (drop (at + 4) s)
      constant-good = go (leb v 7) refl e
        where
          go : (z : Bool) → leb v 7 ≡ z → found kind ≡ const_type_of v
              → constant keep (drop at s) ≡ (check (size_fits kind size) (invalid_constant_type kind) >> body kind size) (drop (at + 4) s)
          go true z e = let y = rw z at e in let x : v ≡ kind = cc in rw (constant-head v k, z, x)
          go false z e = never (sym (rw z at e))

      pub constant-size : size_fits kind size ≡ false → constant keep (drop at s) ≡ fault (invalid_constant_type kind)
      constant-size f = constant-good ∙ rw f

      pub constant-few : size_fits kind size ≡ true → length s - (at + 4) < size → constant keep (drop at s) ≡ fault short_input
      unfolding body
      constant-few f l = let d = length-drop (at + 4) s in constant-good ∙ rw (f, bytes-short size (drop (at + 4) s) (omega arith))

      pub constant-whole : size_fits kind size ≡ true → size ≤ length s - (at + 4)
          → constant keep (drop at s)
          ≡ got (record { kind = kind; kept = kept_of keep kind (part (at + 4) size s) (length s - (at + 4 + size)) }) (drop (at + 4 + size) s)
      unfolding body
      constant-whole f l =
          let d = length-drop (at + 4 + size) s in
          constant-good ∙ rw (f, bytes-at size s (at + 4) (at + 4 + size) refl (omega arith), d)

-- what is kept of an entry, by the test of its type, `z`
module _ (kind size : ℕ) (z : Bool) (e : z ≡ not (is_number kind)) (offset : ℕ) (s : List ℕ) (at : ℕ) (l : at + size ≤ length s) where
  turned : (b z : Bool) → z ≡ not b → b ≡ not z
  turned true z e = rw e
  turned false z e = rw e

  pub string-kept : z ≡ true → string (record { offset = offset + at; size = size }) ≡ kept_over (record { offset = offset; size = length s }) s kind at size
  unfolding kept_of
  string-kept h =
      let m = length_part s at size l in
      let o : offset + length s - (length s - (at + size)) - size ≡ offset + at = omega arith in
      rw (turned (is_number kind) z e, h, m, o)

  pub number-kept : (n : ℕ) → z ≡ false → bytes_le 8 n ≡ part at size s ++ replicate (8 - size) 0 → number (bytes_le 8 n) ≡ kept_over (record { offset = offset; size = length s }) s kind at size
  unfolding kept_of
  number-kept n h b = let m = length_part s at size l in rw (turned (is_number kind) z e, h, m) (ap number b)

-- A string ends in the section

abbrev pub StringEnds : ℕ → Kept Place → Type 0
StringEnds most (number b) = Unit {0}
StringEnds most (string p) = p.offset + p.size ≤ most

pub kept-ends : (m n : ℕ) → m ≤ n → (k : declared.Kept) → StringEnds m (kept_in k) → KeptEnds n k
kept-ends m n l (kept.Number v) h = tt
kept-ends m n l (kept.Part p) h = omega arith

pub ends-later : (m n : ℕ) → m ≤ n → (k : declared.Kept) → KeptEnds m k → KeptEnds n k
ends-later m n l (kept.Number v) h = tt
ends-later m n l (kept.Part p) h = omega arith

module _ (p : Place) (s : List ℕ) (m : length s ≤ p.offset + p.size) (at : ℕ) where
  abbrev kind : ℕ
  kind = le_at 1 s at

  abbrev size : ℕ
  size = le_at 2 s (at + 2)

  of_kept : (z : Bool) → is_number kind ≡ z → at + 4 + size ≤ length s → StringEnds (p.offset + p.size) (kept_of (by_place p) kind (part (at + 4) size s) (length s - (at + 4 + size)))
  unfolding kept_of
  of_kept true z i = rw z tt
  of_kept false z i = let n = length_part s (at + 4) size i in rw (z, n) (omega arith)

  pub constant-ends : (c : Constant Place) (rest : List ℕ) → constant (by_place p) (drop at s) ≡ got c rest → StringEnds (p.offset + p.size) c.kept
  constant-ends c rest e = room (dec_le (at + 4) (length s))
    where
      here : at + 4 ≤ length s → (x y : Bool) → leb kind 7 ≡ x → size_fits kind size ≡ y → Dec (size ≤ length s - (at + 4)) → StringEnds (p.offset + p.size) c.kept
      here h false y a b d = read.never (sym (constant-type (by_place p) s at size h refl kind (invalid_constant_type kind) refl (rw a)) ∙ e)
      here h true false a b d = read.never (sym (constant-size (by_place p) s at size h refl kind kind refl (rw a) b) ∙ e)
      here h true true a b (no i) = read.never (sym (constant-few (by_place p) s at size h refl kind kind refl (rw a) b (omega arith)) ∙ e)
      here h true true a b (yes i) =
          let w = sym (constant-whole (by_place p) s at size h refl kind kind refl (rw a) b i) ∙ e in
          let z : record { kind = kind; kept = kept_of (by_place p) kind (part (at + 4) size s) (length s - (at + 4 + size)) } ≡ c = cc in
          subst (λ (v : Constant Place). StringEnds (p.offset + p.size) v.kept) z (of_kept (is_number kind) refl (omega arith))

      room : Dec (at + 4 ≤ length s) → StringEnds (p.offset + p.size) c.kept
      room (yes h) = here h (leb kind 7) (size_fits kind size) refl refl (dec_le size (length s - (at + 4)))
      room (no i) = let d = length-drop at s in read.never (sym (constant-short (by_place p) (drop at s) (omega arith)) ∙ e)
