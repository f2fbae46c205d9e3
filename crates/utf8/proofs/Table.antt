-- Laws of the table of well-formed sequences: no two lead ranges have a byte in common, so the lead byte decides the row.
-- Assumes nothing.
use mathlib.Core.Bool.{Bool, true, false, ◌&&◌, ◌||◌, cond, and-true, and-false, or_comm}
use mathlib.Core.List.{List, [], ◌∷◌, Memᴰ}
use mathlib.Core.Path.{◌≡◌, refl, sym, ap, ◌∙◌}
use Prim.Native.Nat.{ℕ, zero, suc, ◌-◌, ◌≤◌, ◌<◌}
use native.Mathlib.Nat.{not-suc-le-zero}
use native.Mathlib.Omega.{arith}
use lib.Dec.{T, leb, ltb, ltb→lt}
use lib.ListN.{length, length-drop, length-replicate, take, drop, replicate, get_or}
use lib.Seq.{take-length}
use borrow.Author.Tests.{le-leb, lt-leb}
use Rattle.std.specs.Prelude.{Option, Some, None, slice_get}
use Rattle.std.specs.List.{list_all}
use Rattle.utf8.specs.Utf8.{Range, within, starts, first_of, well_formed, sequence_at, if_any}

-- the parts of a test that holds
pub left : (a b : Bool) → T (a && b) → T a
left true b t = tt
left false b t = t

pub right : (a b : Bool) → T (a && b) → T b
right true b t = t
right false b t = absurd t

-- two ranges have no byte in common
abbrev apart : Range → Range → Bool
apart q r = ltb q.high r.low || ltb r.high q.low

outside : (q r : Range) (b : ℕ) → T (apart q r) → r.low ≤ b → b ≤ r.high → within q b ≡ false
outside q r b t l h = by_cases (ltb q.high r.low) (λ u. ltb→lt q.high r.low u) t
  where
    by_cases : (u : Bool) → (T u → q.high < r.low) → T (u || ltb r.high q.low) → within q b ≡ false
    by_cases true k t = let m = k tt in rw (lt-leb b q.high (omega arith)) (and-false (leb q.low b))
    by_cases false k t = let m = ltb→lt r.high q.low t in rw (lt-leb q.low b (omega arith))

-- no lead range of the rows has a byte of `r`; and no two of them have one in common
abbrev pub clear : Range → List (List Range) → Bool
clear r [] = true
clear r ([] ∷ rows) = false
clear r ((q ∷ row) ∷ rows) = apart q r && clear r rows

abbrev disjoint : List (List Range) → Bool
disjoint [] = true
disjoint ([] ∷ rows) = false
disjoint ((r ∷ row) ∷ rows) = clear r rows && disjoint rows

no_row : (r : Range) (rows : List (List Range)) (b : ℕ) (s : List ℕ) → T (clear r rows) → r.low ≤ b → b ≤ r.high → first_of rows (b ∷ s) ≡ 0
no_row r [] b s t l h = refl
no_row r ([] ∷ rows) b s t l h = absurd t
no_row r ((q ∷ row) ∷ rows) b s t l h = rw (outside q r b (search left) l h) (no_row r rows b s (search right) l h)

-- the byte is in the row's lead range; and the length of the sequence, by the row, where `s` stands behind such a byte
abbrev pub leads : List Range → ℕ → Type 0
leads [] b = ⊥
leads (r ∷ row) b = (r.low ≤ b) × (b ≤ r.high)

abbrev pub behind : List Range → List ℕ → ℕ
behind [] s = 0
behind (r ∷ row) s = cond (starts row s) (suc (length row)) 0

-- a byte that leads one of the rows is not in `q`
past : (q : Range) (rows : List (List Range)) (row : List Range) (b : ℕ) → T (clear q rows) → Memᴰ row rows → leads row b → within q b ≡ false
past q [] row b t m l = elim m [ ]
past q ([] ∷ rows) row b t m l = absurd t
past q ((r ∷ tail) ∷ rows) row b t (Memᴰ.head e) l =
    let k : leads (r ∷ tail) b = rw e at l in
    outside q r b (rw or_comm (search left)) k.0 k.1
past q ((r ∷ tail) ∷ rows) row b t (Memᴰ.tail m) l = past q rows row b (search right) m l

-- the table says what the row of the lead byte says
lead-in : (rows : List (List Range)) (row : List Range) (b : ℕ) (s : List ℕ) → T (disjoint rows) → Memᴰ row rows → leads row b → first_of rows (b ∷ s) ≡ behind row s
lead-in [] row b s t m l = elim m [ ]
lead-in ([] ∷ rows) row b s t m l = absurd t
lead-in ((r ∷ tail) ∷ rows) row b s t (Memᴰ.head e) l =
    let k : leads (r ∷ tail) b = rw e at l in
    rw (e, le-leb r.low b k.0, le-leb b r.high k.1, no_row r rows b s (search left) k.0 k.1)
lead-in ((r ∷ tail) ∷ rows) row b s t (Memᴰ.tail m) l =
    rw (past r rows row b (search left) m l) (lead-in rows row b s (search right) m l)

pub lead : (row : List Range) (b : ℕ) (s : List ℕ) → Memᴰ row well_formed → leads row b → sequence_at (b ∷ s) ≡ behind row s
unfolding sequence_at
lead row b s m l = lead-in well_formed row b s tt m l

-- a slice `s[n..]`
pub to_end : (n : ℕ) (s : List ℕ) → take (length s - n) (drop n s) ≡ drop n s
to_end n s = rw (← length-drop n s) (take-length (drop n s))

-- what `sequence` answers for a text: that is empty, that starts with a lead byte of row `k`, and with a byte that leads no row
pub of_empty : (s : List ℕ) → None ≡ slice_get s 0 → None ≡ if_any (sequence_at s)
unfolding sequence_at
of_empty [] e = refl
of_empty (b ∷ s) e = absurd (cc)

abbrev pub any_behind : List Range → List ℕ → Option ℕ
any_behind [] s = None
any_behind (r ∷ row) s = cond (starts row s) (Some (suc (length row))) None

any-behind : (row : List Range) (s : List ℕ) → any_behind row s ≡ if_any (behind row s)
any-behind [] s = refl
any-behind (r ∷ row) s = by_cases (starts row s)
  where
    by_cases : (t : Bool) → cond t (Some (suc (length row))) None ≡ if_any (cond t (suc (length row)) 0)
    by_cases true = refl
    by_cases false = refl

pub of_member : (row : List Range) (s : List ℕ) (b : ℕ) (x : Option ℕ) → Memᴰ row well_formed → Some b ≡ slice_get s 0 → leads row b
    → x ≡ any_behind row (drop 1 s) → x ≡ if_any (sequence_at s)
of_member row [] b x m e l h = absurd (cc)
of_member row (a ∷ s) b x m e l h =
    let q : b ≡ a = cc in
    h ∙ any-behind row s ∙ rw (← q) (sym (ap if_any (lead row b s m l)))

pub of_row : (k : ℕ) (s : List ℕ) (b : ℕ) (x : Option ℕ) → Some b ≡ slice_get s 0 → leads (get_or well_formed k []) b
    → x ≡ any_behind (get_or well_formed k []) (drop 1 s) → x ≡ if_any (sequence_at s)
of_row k s b x e l h = of_member (get_or well_formed k []) s b x (in_table well_formed k l) e l h
  where
    in_table : (rows : List (List Range)) (k : ℕ) → leads (get_or rows k []) b → Memᴰ (get_or rows k []) rows
    in_table [] k l = absurd l
    in_table (row ∷ rows) zero l = Memᴰ.head refl
    in_table (row ∷ rows) (suc k) l = Memᴰ.tail (in_table rows k l)

pub of_none : (r : Range) (s : List ℕ) (b : ℕ) → T (clear r well_formed) → Some b ≡ slice_get s 0 → leads (r ∷ []) b → None ≡ if_any (sequence_at s)
unfolding sequence_at
of_none r [] b t e l = absurd (cc)
of_none r (a ∷ s) b t e l =
    let q : b ≡ a = cc in
    rw (← q, no_row r well_formed b s t l.0 l.1) refl

-- the bytes behind the lead byte: no text starts with a row that is longer; the second byte, and those behind it
pub too_short : (row : List Range) (x : List ℕ) → length x < length row → starts row x ≡ false
too_short [] x h = absurd (not-suc-le-zero h)
too_short (r ∷ row) [] h = refl
too_short (r ∷ row) (b ∷ x) h = rw (too_short row x (omega arith)) (and-false (within r b))

second : (r : Range) (row : List Range) (s : List ℕ) → starts (r ∷ row) (drop 1 s) ≡ (starts (r ∷ []) (take (length s - 1) (drop 1 s)) && starts row (drop 2 s))
second r row s = rw (to_end 1 s) (split s)
  where
    split : (s : List ℕ) → starts (r ∷ row) (drop 1 s) ≡ (starts (r ∷ []) (drop 1 s) && starts row (drop 2 s))
    split [] = refl
    split (a ∷ []) = refl
    split (a ∷ (b ∷ s)) = rw (and-true (within r b))

-- what `followed` tests: the second byte is in its range, and `all` of those behind it
by_all : (m : ℕ) (r : Range) (x : List ℕ) → m ≤ length x → list_all (within r) (take m x) ≡ starts (replicate m r) x
by_all zero r x l = refl
by_all (suc m) r [] l = absurd (not-suc-le-zero l)
by_all (suc m) r (b ∷ x) l = rw (by_all m r x (omega arith))

pub tested : (n : ℕ) (q r : Range) (s : List ℕ) (a b : Bool) → n ≤ length s → a ≡ starts (q ∷ []) (take (length s - 1) (drop 1 s))
    → b ≡ list_all (within r) (take (n - 2) (drop 2 s)) → starts (q ∷ replicate (n - 2) r) (drop 1 s) ≡ (a && b)
tested n q r s a b l e f = rw (second q (replicate (n - 2) r) s, e, f, by_all (n - 2) r (drop 2 s) (omega (arith, length-drop 2 s)))

pub untested : (n : ℕ) (q r : Range) (s : List ℕ) → 2 ≤ n → length s < n → starts (q ∷ replicate (n - 2) r) (drop 1 s) ≡ false
untested n q r s m l = too_short (q ∷ replicate (n - 2) r) (drop 1 s) (omega (arith, length-drop 1 s, length-replicate (n - 2) r))
