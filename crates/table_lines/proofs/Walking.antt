-- A loop that writes the lines of a walk's entries: what is written and what the rest of the walk gives are the whole text.
use Prim.Native.Nat.{ℕ, zero, suc, ◌+◌, ◌-◌, ◌≤◌, ◌<◌}
use mathlib.Core.Path.{◌≡◌, refl, sym, ◌∙◌}
use mathlib.Core.List.{List, [], ◌++◌, append-nil, append_assoc}
use native.Mathlib.Omega.{arith}
use native.Mathlib.Numerals.{add-one}
use Rattle.std.specs.Prelude.{Some, None}
use Rattle.reading.specs.Fault.{Fault}
use Rattle.reading.specs.Places.{Next, ends, faulty, entry}
use Rattle.reading.specs.declared.Table.{Table}
use Rattle.lent.specs.Output.{Wrote, PutsRestFree}
use Rattle.lent.proofs.Writing.{wrote_then}
use Rattle.lent.proofs.Fitting.{free-wrote, free-at, free-as, free-stop, wrote-free}
use Rattle.table_lines.specs.Walks.{walk_text, entries_text}

module _ {A : Type 0} (step : Table → Next A) (line_of : ℕ → A → List ℕ) where
  -- the text of no entry, of a step that gives none, and of one that does

  text-empty : (i n : ℕ) (t : Table) → n ≡ 0 → walk_text step line_of i n t ≡ []
  unfolding walk_text
  text-empty i n t h = rw h refl

  text-none : (i n : ℕ) (t : Table) → ends ≡ step t → walk_text step line_of i n t ≡ []
  unfolding walk_text
  text-none i zero t e = refl
  text-none i (suc n) t e = rw (← e) refl

  text-stop : (i n : ℕ) (t : Table) {f : Fault} → faulty f ≡ step t → walk_text step line_of i n t ≡ []
  unfolding walk_text
  text-stop i zero t e = refl
  text-stop i (suc n) t e = rw (← e) refl

  text-more : (i n m : ℕ) (t : Table) {a : A} {u : Table} → n ≡ suc m → entry a u ≡ step t → walk_text step line_of i n t ≡ line_of i a ++ walk_text step line_of (i + 1) m u
  unfolding walk_text
  text-more i n m t h e = rw (h, ← e, add-one) refl

  -- A loop over a walk of the table `first`: the buffer was `before` and is `after`, the text so far ends at `next`, the next entry has the index i,
  -- and `rest` is still to come
  pub record Left (before : List ℕ) (at : ℕ) (first : Table) (after : List ℕ) (i next : ℕ) (rest : Table) : Type 0 where
    pub put : List ℕ
    pub wrote : Wrote before at put after next
    pub all : entries_text step line_of first ≡ put ++ walk_text step line_of i (first.count - i) rest

module _ {A : Type 0} {step : Table → Next A} {line_of : ℕ → A → List ℕ} {before : List ℕ} {at : ℕ} {first : Table} {after : List ℕ} {i next : ℕ} {rest : Table}
    (l : Left step line_of before at first after i next rest) where
  left-done : walk_text step line_of i (first.count - i) rest ≡ [] → PutsRestFree before at (entries_text step line_of first) after (Some next)
  left-done e = rw (l.all, e, append-nil) (free-wrote l.wrote)

  -- no entry is left
  pub left_end : first.count ≤ i → PutsRestFree before at (entries_text step line_of first) after (Some next)
  left_end h = left-done (text-empty step line_of i (first.count - i) rest (omega arith))

  -- a step that gives none
  pub left-none : ends ≡ step rest → PutsRestFree before at (entries_text step line_of first) after (Some next)
  left-none e = left-done (text-none step line_of i (first.count - i) rest e)

  pub left-stop : {f : Fault} → faulty f ≡ step rest → PutsRestFree before at (entries_text step line_of first) after (Some next)
  left-stop e = left-done (text-stop step line_of i (first.count - i) rest e)

  -- an entry, whose lines are a part of the whole: there is no room for them, or they are written
  module _ (h : i < first.count) {a : A} {u : Table} (e : entry a u ≡ step rest) where
    left-all : entries_text step line_of first ≡ l.put ++ line_of i a ++ walk_text step line_of (i + 1) (first.count - (i + 1)) u
    left-all =
        l.all
        ∙ rw (text-more step line_of i (first.count - i) (first.count - (i + 1)) rest (omega arith) e) (sym (append_assoc l.put (line_of i a) _))

    pub left-full : {c : List ℕ} → PutsRestFree after next (line_of i a) c None → PutsRestFree before at (entries_text step line_of first) c None
    left-full p = free-as (sym left-all) (free-stop _ (wrote-free l.wrote p))

    pub left-more : {c : List ℕ} {q : ℕ} → PutsRestFree after next (line_of i a) c (Some q) → Left step line_of before at first c (i + 1) q u
    left-more p = record { put = l.put ++ line_of i a; wrote = wrote_then l.wrote (free-at p); all = left-all }
