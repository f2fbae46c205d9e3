-- The rows in force, row by row: one more row puts itself in force for its kind.
use mathlib.Core.Path.{◌≡◌, refl, sym, ap, ◌∙◌}
use mathlib.Core.Bool.{Bool, true, false, cond}
use mathlib.Core.List.{List, [], ◌∷◌, ◌++◌, append-nil}
use Prim.Native.Nat.{ℕ, suc, ◌+◌, ◌≤◌, ◌<◌}
use native.Mathlib.Nat.{add-zero}
use native.Mathlib.Numerals.{add-one}
use native.Mathlib.Omega.{arith}
use lib.Dec.{eqb}
use lib.ListN.{length, get_or, take}
use lib.Seq.{length-take-le, take-suc, take_all}
use Rattle.reading.specs.Fault.{short_input}
use Rattle.reading.specs.Numbers.{le_at}
use Rattle.reading.specs.Reader.{fault}
use Rattle.format.specs.Debug.{Row, tag_of, Kind, lines, variables, functions, strings, files, enumerations, unknown, kind_of, rows_of}
use Rattle.format.specs.InForce.{InForce, rows_with, last_of, table_row, in_force_of, none_in_force, in_force_by, in_force_in}
use Rattle.format.proofs.InForce.{number, of-each, listed, other_tag}
use Rattle.std.specs.Prelude.{Some}
use Rattle.debug_tables.specs.declared.in_force.TableRow.{TableRow}
use Rattle.debug_tables.specs.SixTags.{of_kind, with_kind}
use Rattle.debug_tables.specs.Answers.{table_row_in, RowsInForce, rows_in_force}
use Rattle.debug_tables.specs.LaterRows.{later_row, put_row, FewReplaced}
use Rattle.debug_tables.specs.Rows.{RowsRead}

-- One tag: the last of the numbers decides

last-of : (i j : ℕ) (is : List ℕ) → last_of i (is ++ (j ∷ [])) ≡ j
last-of i j [] = refl
last-of i j (k ∷ is) = last-of k j is

one-longer : (j : ℕ) (is : List ℕ) → length (is ++ (j ∷ [])) ≡ suc (length is)
one-longer j [] = refl
one-longer j (i ∷ is) = ap suc (one-longer j is)

later : (is : List ℕ) (j : ℕ) → table_row (is ++ (j ∷ [])) ≡ later_row (table_row is) j
later [] j = refl
later (i ∷ is) j = rw (last-of i j is, one-longer j is)

module _ (tag : ℕ) where
  with-more : (i : ℕ) (rows : List Row) (row : Row) → rows_with tag i (rows ++ (row ∷ [])) ≡ rows_with tag i rows ++ cond (eqb (tag_of row) tag) ((i + length rows) ∷ []) []
  unfolding rows_with
  with-more i [] row = rw (add-zero i)
  with-more i (r ∷ rows) row =
      let z : suc i + length rows ≡ i + suc (length rows) = omega arith in
      rw (with-more (suc i) rows row, z) (go (eqb (tag_of r) tag) (rows_with tag (suc i) rows) (cond (eqb (tag_of row) tag) ((i + suc (length rows)) ∷ []) []))
    where
      go : (b : Bool) (is js : List ℕ) → cond b (i ∷ is ++ js) (is ++ js) ≡ cond b (i ∷ is) is ++ js
      go true is js = refl
      go false is js = refl

  one_more : (rows : List Row) (row : Row) → table_row (rows_with tag 0 (rows ++ (row ∷ [])))
      ≡ cond (eqb (tag_of row) tag) (later_row (table_row (rows_with tag 0 rows)) (length rows)) (table_row (rows_with tag 0 rows))
  one_more rows row =
      let z : 0 + length rows ≡ length rows = omega arith in
      ap table_row (with-more 0 rows row ∙ ap (λ (n : ℕ). rows_with tag 0 rows ++ cond (eqb (tag_of row) tag) (n ∷ []) []) z) ∙ go (eqb (tag_of row) tag)
    where
      go : (b : Bool) → table_row (rows_with tag 0 rows ++ cond b (length rows ∷ []) []) ≡ cond b (later_row (table_row (rows_with tag 0 rows)) (length rows)) (table_row (rows_with tag 0 rows))
      go true = later (rows_with tag 0 rows) (length rows)
      go false = ap table_row (append-nil (rows_with tag 0 rows))

  -- no more are replaced than there are rows
  few-with : (i : ℕ) (rows : List Row) → length (rows_with tag i rows) ≤ length rows
  unfolding rows_with
  few-with i [] = omega arith
  few-with i (row ∷ rows) = go (eqb (tag_of row) tag) (few-with (suc i) rows)
    where
      go : (b : Bool) → length (rows_with tag (suc i) rows) ≤ length rows → length (cond b (i ∷ rows_with tag (suc i) rows) (rows_with tag (suc i) rows)) ≤ suc (length rows)
      go true h = omega arith
      go false h = omega arith

  few-replaced : (rows : List Row) → (table_row (rows_with tag 0 rows)).replaced ≤ length rows
  few-replaced rows = go (rows_with tag 0 rows) (few-with 0 rows)
    where
      go : (is : List ℕ) → length is ≤ length rows → (table_row is).replaced ≤ length rows
      go [] h = omega arith
      go (i ∷ is) h = omega arith

-- The six tags

abbrev each : ℕ → ℕ → InForce → InForce
each tag i u =
    record {
      lines = cond (eqb tag 1) (later_row u.lines i) u.lines;
      variables = cond (eqb tag 2) (later_row u.variables i) u.variables;
      functions = cond (eqb tag 3) (later_row u.functions i) u.functions;
      strings = cond (eqb tag 4) (later_row u.strings i) u.strings;
      files = cond (eqb tag 6) (later_row u.files i) u.files;
      enumerations = cond (eqb tag 9) (later_row u.enumerations i) u.enumerations;
    }

-- a row of a kind puts itself in force for that kind alone
module _ (tag i : ℕ) (u : InForce) where
  abbrev Puts : Kind → Type 0
  Puts k = kind_of tag ≡ k → (0 < number k → number k ≡ tag) → each tag i u ≡ put_row k i u

  none-puts : kind_of tag ≡ unknown → each tag i u ≡ u
  unfolding kind_of
  none-puts h =
      rw (other_tag 1 (omega arith) tag h, other_tag 2 (omega arith) tag h, other_tag 3 (omega arith) tag h, other_tag 4 (omega arith) tag h, other_tag 6 (omega arith) tag h, other_tag 9 (omega arith) tag h)

  of-tag : (n : ℕ) → n ≡ tag → each tag i u ≡ each n i u
  of-tag n e = ap (λ (t : ℕ). each t i u) (sym e)

  puts : each tag i u ≡ put_row (kind_of tag) i u
  puts =
      of-each Puts (λ h l. of-tag 1 (l (omega arith))) (λ h l. of-tag 2 (l (omega arith))) (λ h l. of-tag 3 (l (omega arith))) (λ h l. of-tag 4 (l (omega arith)))
      (λ h l. of-tag 6 (l (omega arith))) (λ h l. of-tag 9 (l (omega arith))) (λ h l. none-puts h) (kind_of tag) refl (listed tag)

-- one more row
in-force-more : (rows : List Row) (row : Row) → in_force_of (rows ++ (row ∷ [])) ≡ put_row (kind_of (tag_of row)) (length rows) (in_force_of rows)
in-force-more rows row =
    rw (one_more 1 rows row, one_more 2 rows row, one_more 3 rows row, one_more 4 rows row, one_more 6 rows row, one_more 9 rows row)
    (puts (tag_of row) (length rows) (in_force_of rows))

-- The section's rows

module _ (rows : List Row) where
  -- the row `i` behind the rows in front of it
  pub next_row : (i tag : ℕ) (k : Kind) (u : InForce) → i < length rows → tag ≡ le_at 2 (get_or rows i []) 0 → k ≡ kind_of tag → u ≡ in_force_of (take i rows)
      → put_row k i u ≡ in_force_of (take (i + 1) rows)
  unfolding tag_of
  next_row i tag k u l t e h =
      let z : take (i + 1) rows ≡ take i rows ++ (get_or rows i [] ∷ []) = rw add-one (take-suc rows i [] l) in
      let m = in-force-more (take i rows) (get_or rows i []) in
      let y = rw (← t, ← e, length-take-le i rows (omega arith), ← h) at m in
      sym (ap in_force_of z ∙ y)

  few-so-far : (tag i : ℕ) → i ≤ length rows → (table_row (rows_with tag 0 (take i rows))).replaced ≤ i
  few-so-far tag i l = let n = length-take-le i rows l in let f = few-replaced tag (take i rows) in omega arith

  -- so one more fits the counts of the code
  pub counts-fit : (i : ℕ) (u : RowsInForce) → i < 65535 → i ≤ length rows → rows_in_force u ≡ in_force_of (take i rows) → FewReplaced u
  counts-fit i u h l e =
      record {
        lines = omega (arith, ap (λ (v : InForce). v.lines.replaced) e, few-so-far 1 i l);
        variables = omega (arith, ap (λ (v : InForce). v.variables.replaced) e, few-so-far 2 i l);
        functions = omega (arith, ap (λ (v : InForce). v.functions.replaced) e, few-so-far 3 i l);
        strings = omega (arith, ap (λ (v : InForce). v.strings.replaced) e, few-so-far 4 i l);
        files = omega (arith, ap (λ (v : InForce). v.files.replaced) e, few-so-far 6 i l);
        enumerations = omega (arith, ap (λ (v : InForce). v.enumerations.replaced) e, few-so-far 9 i l);
      }

module _ (s : List ℕ) where
  pub all-rows : (rows : List Row) (i : ℕ) → length rows ≤ i → RowsRead s rows → in_force_of (take i rows) ≡ in_force_in s
  unfolding in_force_in
  all-rows rows i h r = ap in_force_of (take_all i rows h) ∙ sym (ap in_force_by r.reads)

  pub short-rows : rows_of s ≡ fault short_input → none_in_force ≡ in_force_in s
  unfolding in_force_in
  short-rows h = sym (ap in_force_by h)

pub no_rows : (rows : List Row) → none_in_force ≡ in_force_of (take 0 rows)
unfolding rows_with
no_rows rows = refl

-- a kind's row, and the others as they were
pub put_some : (k : Kind) (t v : TableRow) (i : ℕ) (u : RowsInForce) → Some t ≡ of_kind k u → table_row_in v ≡ later_row (table_row_in t) i → rows_in_force (with_kind k v u) ≡ put_row k i (rows_in_force u)
put_some lines t v i u h e = let z : t ≡ u.lines = cc in rw (e, z)
put_some variables t v i u h e = let z : t ≡ u.variables = cc in rw (e, z)
put_some functions t v i u h e = let z : t ≡ u.functions = cc in rw (e, z)
put_some strings t v i u h e = let z : t ≡ u.strings = cc in rw (e, z)
put_some files t v i u h e = let z : t ≡ u.files = cc in rw (e, z)
put_some enumerations t v i u h e = let z : t ≡ u.enumerations = cc in rw (e, z)
put_some unknown t v i u h e = absurd (let z : ◌≡◌ {A = ℕ} 0 1 = cc in omega arith)
