-- Tags and kinds; and unknown tables change none of the replaced counts: rows of tags that are not listed have none of the six.
use Prim.Native.Nat.{ℕ, suc, ◌<◌}
use native.Mathlib.Omega.{arith}
use mathlib.Core.Path.{◌≡◌, refl, sym, ap}
use mathlib.Core.Bool.{Bool, true, false, cond}
use mathlib.Core.List.{List, [], ◌∷◌}
use lib.Dec.{eqb}
use lib.ListN.{length}
use borrow.Author.Tests.{eqb-true}
use Rattle.format.specs.Debug.{tag_of, kind_of}
use Rattle.format.specs.Debug.{Kind, lines, variables, functions, strings, files, enumerations, unknown}
use Rattle.format.specs.InForce.{rows_with, table_row, in_force_of, replaced_counts}
use Rattle.format.specs.Added.{RowAndPayload, all_rows, WithUnknown, end, kept, added}

-- Tags and kinds

-- a number for each kind: its tag, and 0 for those that are not listed
abbrev pub number : Kind → ℕ
number lines = 1
number variables = 2
number functions = 3
number strings = 4
number files = 6
number enumerations = 9
number unknown = 0

-- a law of all kinds, kind by kind
pub of-each : (P : Kind → Type 0) → P lines → P variables → P functions → P strings → P files → P enumerations → P unknown → (k : Kind) → P k
of-each P a b c d e f g lines = a
of-each P a b c d e f g variables = b
of-each P a b c d e f g functions = c
of-each P a b c d e f g strings = d
of-each P a b c d e f g files = e
of-each P a b c d e f g enumerations = f
of-each P a b c d e f g unknown = g

-- the number of a listed kind is its tag
module _ (tag : ℕ) where
  abbrev Listed : Kind → Type 0
  Listed k = 0 < number k → number k ≡ tag

  or_else : (k rest : Kind) → Listed rest → Listed (cond (eqb tag (number k)) k rest)
  or_else k rest h = go (eqb tag (number k)) refl
    where
      go : (z : Bool) → eqb tag (number k) ≡ z → Listed (cond z k rest)
      go true e l = sym (eqb-true tag (number k) e)
      go false e l = h l

  pub listed : Listed (kind_of tag)
  unfolding kind_of
  listed =
      or_else lines _ (or_else variables _ (or_else functions _ (or_else strings _ (or_else files _ (or_else enumerations unknown (λ l. absurd (omega arith)))))))

-- Unknown tables

-- as many rows, as many replaced
replaced-of : (is js : List ℕ) → length is ≡ length js → (table_row is).replaced ≡ (table_row js).replaced
replaced-of [] [] e = refl
replaced-of [] (j ∷ js) e = absurd (omega arith)
replaced-of (i ∷ is) [] e = absurd (omega arith)
replaced-of (i ∷ is) (j ∷ js) e = omega arith

module _ (tag : ℕ) (is-listed : 0 < number (kind_of tag)) where
  -- a tag that is not listed is another
  pub other_tag : (other : ℕ) → kind_of other ≡ unknown → eqb other tag ≡ false
  other_tag other h = go (eqb other tag) refl
    where
      go : (z : Bool) → eqb other tag ≡ z → z ≡ false
      go false e = refl
      go true e = let z = ap (λ (t : ℕ). number (kind_of t)) (eqb-true other tag e) in let y = ap number h in absurd (omega arith)

  same_count : {ps qs : List RowAndPayload} → WithUnknown ps qs → (i j : ℕ) → length (rows_with tag i (all_rows ps)) ≡ length (rows_with tag j (all_rows qs))
  unfolding rows_with
  same_count end i j = refl
  same_count (kept {p} {ps} {qs} w) i j =
      go (eqb (tag_of p.row) tag) (rows_with tag (suc i) (all_rows ps)) (rows_with tag (suc j) (all_rows qs)) (same_count w (suc i) (suc j))
    where
      go : (z : Bool) (is js : List ℕ) → length is ≡ length js → length (cond z (i ∷ is) is) ≡ length (cond z (j ∷ js) js)
      go true is js e = omega arith
      go false is js e = e
  same_count (added {q} u w) i j = rw (other_tag (tag_of q.row) u.not_listed) (same_count w i (suc j))

  pub same-replaced : {ps qs : List RowAndPayload} → WithUnknown ps qs → (table_row (rows_with tag 0 (all_rows ps))).replaced ≡ (table_row (rows_with tag 0 (all_rows qs))).replaced
  same-replaced {ps} {qs} w = replaced-of (rows_with tag 0 (all_rows ps)) (rows_with tag 0 (all_rows qs)) (same_count w 0 0)

-- the six tags are listed
pub replaced-alike : {ps qs : List RowAndPayload} → WithUnknown ps qs → replaced_counts (in_force_of (all_rows ps)) ≡ replaced_counts (in_force_of (all_rows qs))
unfolding kind_of
replaced-alike w =
    rw (
      same-replaced 1 (omega arith) w,
      same-replaced 2 (omega arith) w,
      same-replaced 3 (omega arith) w,
      same-replaced 4 (omega arith) w,
      same-replaced 6 (omega arith) w,
      same-replaced 9 (omega arith) w,
    )
