-- What is left of a section behind some of its bytes; and the law that a caller's walk over a table gives the table.
use mathlib.Core.Path.{◌≡◌, refl, sym, ap, ◌∙◌}
use mathlib.Core.Bool.{false}
use mathlib.Core.List.{List, [], ◌∷◌}
use Prim.Native.Nat.{ℕ, zero, suc, ◌+◌, ◌-◌, ◌≤◌}
use native.Mathlib.Decide.{dec_le}
use native.Mathlib.Omega.{arith}
use lib.ListN.{length, drop, length-append, length-drop}
use lib.Dec.{eqb}
use lib.Seq.{drop-drop, drop_at, drop-length, drop-nil}
use borrow.Author.Tests.{ne_eqb}
use Rattle.reading.specs.Reader.{Read, fault, got, Reader, next, ◌>>=◌ as ◌>>=r◌, give, left, many, counted}
use Rattle.reading.specs.Answer.{found, ◌>>=◌, item_of}
use Rattle.reading.specs.Places.{left_of, next_of, step_of, on_next, walked}
use Rattle.reading.specs.declared.Table.{Table}
use Rattle.reading.proofs.Reading.{both}
use Rattle.reading.proofs.Local.{Taken, Local, local-give, local-number}

pub record LeftOf (whole s : List ℕ) : Type 0 where
  pub behind : ℕ
  pub most : behind ≤ length whole
  pub is : s ≡ drop behind whole

pub left-all : (whole : List ℕ) → LeftOf whole whole
left-all whole = record { behind = 0; most = omega arith; is = refl }

past : (at : ℕ) (l : List ℕ) → length l ≤ at → drop at l ≡ []
past at [] h = drop-nil at
past zero (x ∷ l) h = absurd (omega arith)
past (suc at) (x ∷ l) h = past at l (omega arith)

-- behind a place, whether it is in the section or past its end
pub left_at : (whole : List ℕ) (at : ℕ) → LeftOf whole (drop at whole)
left_at whole at = go (dec_le at (length whole))
  where
    go : Dec (at ≤ length whole) → LeftOf whole (drop at whole)
    go (yes i) = record { behind = at; most = i; is = refl }
    go (no i) = record { behind = length whole; most = omega arith; is = past at whole (omega arith) ∙ sym (drop-length whole) }

-- behind what a local reader took
pub left-taken : {A : Type 0} {r : Reader A} (whole s : List ℕ) (a : A) (t : List ℕ) → LeftOf whole s → Taken r s a t → LeftOf whole t
left-taken whole s a t w k =
    let n = length k.front in
    let l = ap length w.is ∙ length-drop w.behind whole in
    let m = ap length k.split ∙ length-append k.front t in
    record {
      behind = w.behind + n;
      most = omega arith;
      is = sym (drop_at k.front t n refl) ∙ ap (drop n) (sym k.split ∙ w.is) ∙ drop-drop n w.behind whole;
    }

-- it is found again by its length
pub left-again : (whole s : List ℕ) → LeftOf whole s → drop (length whole - length s) whole ≡ s
left-again whole s w =
    let l = ap length w.is ∙ length-drop w.behind whole in
    let m = w.most in
    let e : length whole - length s ≡ w.behind = omega arith in
    ap (λ (n : ℕ). drop n whole) e ∙ sym w.is

-- what a reader leaves of a section is left of it
pub record Stays {A : Type 0} (whole : List ℕ) (r : Reader A) : Type 0 where
  pub leaves : (s : List ℕ) (a : A) (t : List ℕ) → LeftOf whole s → r s ≡ got a t → LeftOf whole t

pub stays-local : {A : Type 0} (whole : List ℕ) {r : Reader A} → Local r → Stays whole r
stays-local whole h = record { leaves = λ s a t w e. left-taken whole s a t w (h.taken s a t e) }

pub stays-bind : {A B : Type 0} (whole : List ℕ) {r : Reader A} {go : A → Reader B} → Stays whole r → ((a : A) → Stays whole (go a)) → Stays whole (r >>=r go)
stays-bind whole {r} hr hg =
    record {
      leaves = λ s b t w e.
          let k = both (r s) e in
          (hg k.item).leaves k.middle b t (hr.leaves s k.item k.middle w k.first) k.second;
    }

pub stays-left : (whole : List ℕ) → Stays whole left
stays-left whole = record { leaves = λ s n t w e. let z : s ≡ t = cc in rw z at w }

pub stays-many : {A : Type 0} (whole : List ℕ) (n : ℕ) {r : Reader A} → Stays whole r → Stays whole (many n r)
stays-many whole zero h = stays-local whole (local-give [])
stays-many whole (suc n) h = stays-bind whole h λ a. stays-bind whole (stays-many whole n h) λ xs. stays-local whole (local-give (a ∷ xs))

pub stays-counted : {A : Type 0} (whole : List ℕ) {r : Reader A} → Stays whole r → Stays whole (counted r)
stays-counted whole h = stays-bind whole (stays-local whole (local-number 2)) λ n. stays-many whole n h

-- a caller's walk over a table, step by step, gives what reading the table gives
pub walk-is-table : {A : Type 0} (whole : List ℕ) (r : Reader A) → Stays whole r → (n : ℕ) (t : Table) → t.count ≡ n → walked n r whole t ≡ item_of (many n r (drop t.at whole))
unfolding step_of
walk-is-table whole r h zero t e = refl
walk-is-table {A} whole r h (suc n) t e =
    let k : eqb t.count 0 ≡ false = ne_eqb t.count 0 (λ z. omega arith) in
    rw k (go (walk-is-table whole r h n) (r (drop t.at whole)) refl)
  where
    put : (a : A) (x : Read (List A)) → (item_of x >>= λ xs. found (a ∷ xs)) ≡ item_of (next x (λ xs. give (a ∷ xs)))
    put a (fault f) = refl
    put a (got xs rest) = refl

    go : ((u : Table) → u.count ≡ n → walked n r whole u ≡ item_of (many n r (drop u.at whole))) → (x : Read A) → r (drop t.at whole) ≡ x
        → on_next (next_of whole t x) (walked n r whole) ≡ item_of (next x (λ a. λ rest. next (many n r rest) (λ xs. give (a ∷ xs))))
    go rec (fault f) d = refl
    go rec (got a rest) d =
        let w = left-again whole rest (h.leaves (drop t.at whole) a rest (left_at whole t.at) d) in
        rw (rec (record { at = length whole - length rest; count = t.count - 1 }) (omega arith), w) (put a (many n r rest))

-- the same of a table that reads
pub walk-gives : {A : Type 0} (whole : List ℕ) (r : Reader A) → Stays whole r → (t : Table) (xs : List A) (rest : List ℕ) → left_of r whole t ≡ got xs rest → walked t.count r whole t ≡ found xs
walk-gives whole r h t xs rest e = walk-is-table whole r h t.count t refl ∙ ap item_of e
