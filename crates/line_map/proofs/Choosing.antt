-- The choice of the entry: over the map's bytes what is left behind an entry decides, and on a sorted map the walk that ends at the first
-- entry above the query chooses as the definition does.
use mathlib.Core.Path.{◌≡◌, refl, sym, ap, ◌∙◌}
use mathlib.Core.Bool.{Bool, true, false, ◌&&◌, ◌||◌, cond}
use mathlib.Core.List.{List, [], ◌∷◌}
use mathlib.Core.Logic.{◌⊎◌, inl, inr}
use mathlib.Core.Option.{Option, none}
use Prim.Native.Nat.{ℕ, ◌+◌, ◌≤◌, ◌<◌}
use native.Mathlib.Numerals.{add-one}
use native.Mathlib.Decide.{dec_le, dec_lt}
use native.Mathlib.Omega.{arith}
use lib.Dec.{eqb, leb, ltb}
use lib.ListN.{length, get_or, drop, drop_of_length-le}
use lib.Seq.{drop-cons}
use borrow.Author.Tests.{eq-eqb, ne_eqb, le-leb, lt-leb, lt-ltb, le-ltb, ltb-true, eqb-true, leb-true}
use Rattle.std.proofs.lemmas.Bool.{and_parts}
use Rattle.reading.specs.Answer.{refused, found, present}
use Rattle.format.specs.Debug.{Line}
use Rattle.format.specs.Faults.{no_line, unsorted_map}
use Rattle.format.specs.Lines.{in_order, sorted, candidate, better, best_of, line_for}
use Rattle.line_map.specs.Choice.{is_above, choice_of}
use Rattle.line_map.specs.Lookups.{source_line_in}
use Rattle.line_map.specs.Map.{line_of, lines_of, lines_at}

-- The walk over the map's rows

module _ (rows : List (List ℕ)) (f q i : ℕ) (best : Option Line) (inv : choice_of f q best (lines_of (drop i rows)) ≡ choice_of f q none (lines_of rows)) where
  pub choice-end : length rows ≤ i → best ≡ choice_of f q none (lines_of rows)
  choice-end h = rw (drop_of_length-le rows h) at inv

  -- it stands before the row of index i
  module _ (e : Line) (h : i < length rows) (is : e ≡ line_of (get_or rows i [])) where
    here : choice_of f q best (e ∷ lines_of (drop (i + 1) rows)) ≡ choice_of f q none (lines_of rows)
    here = rw (is, add-one) (sym (ap (λ (x : List (List ℕ)). choice_of f q best (lines_of x)) (drop-cons rows i [] h)) ∙ inv)

    pub choice-above : is_above f q e ≡ true → best ≡ choice_of f q none (lines_of rows)
    choice-above o = rw o at here

    pub choice-more : is_above f q e ≡ false → (later : Option Line) → later ≡ cond (eqb e.function f) (better best e) best
        → choice_of f q later (lines_of (drop (i + 1) rows)) ≡ choice_of f q none (lines_of rows)
    choice-more o later z = rw z (rw o at here)

-- On a sorted map

-- two neighbours
abbrev Ordered : Line → Line → Type 0
Ordered a b = (a.function < b.function) ⊎ ((a.function ≡ b.function) × (a.offset ≤ b.offset))

ordered : (a b : Line) → in_order a b ≡ true → Ordered a b
ordered a b e = go (ltb a.function b.function) refl e
  where
    go : (t : Bool) → ltb a.function b.function ≡ t → (t || (eqb a.function b.function && leb a.offset b.offset)) ≡ true → Ordered a b
    go true h e = inl (ltb-true _ _ h)
    go false h e =
        let k = and_parts (eqb a.function b.function) (leb a.offset b.offset) e in
        inr (eqb-true _ _ k.0, leb-true _ _ k.1)

sorted_head : (a b : Line) (es : List Line) → sorted (a ∷ b ∷ es) ≡ true → Ordered a b
unfolding sorted
sorted_head a b es h = ordered a b (and_parts (in_order a b) (sorted (b ∷ es)) h).0

sorted_tail : (a : Line) (es : List Line) → sorted (a ∷ es) ≡ true → sorted es ≡ true
unfolding sorted
sorted_tail a [] h = refl
sorted_tail a (b ∷ es) h = (and_parts (in_order a b) (sorted (b ∷ es)) h).1

module _ (f q : ℕ) where
  -- an entry is above the query, or a candidate, or one of an earlier function
  abbrev Above : Line → Type 0
  Above e = (f < e.function) ⊎ ((f ≡ e.function) × (q < e.offset))

  data Side (e : Line) : Type 0 where
    above : Above e → is_above f q e ≡ true → candidate f q e ≡ false → Side e
    at_most : is_above f q e ≡ false → candidate f q e ≡ eqb e.function f → Side e

  side : (e : Line) → Side e
  side e = go (dec_lt e.function f) (dec_lt f e.function) (dec_le e.offset q)
    where
      go : Dec (e.function < f) → Dec (f < e.function) → Dec (e.offset ≤ q) → Side e
      go (yes h) b c = at_most (rw (le-ltb f e.function (omega arith), ne_eqb f e.function (omega arith))) (rw (ne_eqb e.function f (omega arith)))
      go (no h) (yes k) c = above (inl k) (rw (lt-ltb f e.function k)) (rw (ne_eqb e.function f (omega arith)))
      go (no h) (no k) (yes l) =
          at_most (rw (le-ltb f e.function (omega arith), le-ltb q e.offset l, eq-eqb f e.function (omega arith)))
          (rw (le-leb e.offset q l, eq-eqb e.function f (omega arith)))
      go (no h) (no k) (no l) =
          above (inr (omega arith)) (rw (le-ltb f e.function (omega arith), eq-eqb f e.function (omega arith), lt-ltb q e.offset (omega arith)))
          (rw (eq-eqb e.function f (omega arith), lt-leb e.offset q (omega arith)))

  above-unfit : (e : Line) → Above e → candidate f q e ≡ false
  above-unfit e (inl h) = rw (ne_eqb e.function f (omega arith))
  above-unfit e (inr (h, k)) = rw (eq-eqb e.function f (sym h), lt-leb e.offset q k)

  above-next : (a b : Line) → Above a → Ordered a b → Above b
  above-next a b (inl h) (inl k) = inl (omega arith)
  above-next a b (inl h) (inr (k, l)) = inl (omega arith)
  above-next a b (inr (h, g)) (inl k) = inl (omega arith)
  above-next a b (inr (h, g)) (inr (k, l)) = inr (omega arith)

  -- behind an entry above the query there is no candidate
  none-behind : (best : Option Line) (e : Line) (es : List Line) → Above e → sorted (e ∷ es) ≡ true → best_of f q best es ≡ best
  none-behind best e [] o h = refl
  none-behind best e (d ∷ es) o h =
      let p : Above d = above-next e d o (sorted_head e d es h) in
      rw (above-unfit d p) (none-behind best d es p (sorted_tail e (d ∷ es) h))

  pub choice-is-best : (best : Option Line) (es : List Line) → sorted es ≡ true → choice_of f q best es ≡ best_of f q best es
  choice-is-best best [] h = refl
  choice-is-best best (e ∷ es) h = go (side e) (λ b. choice-is-best b es (sorted_tail e es h))
    where
      go : Side e → ((b : Option Line) → choice_of f q b es ≡ best_of f q b es) → choice_of f q best (e ∷ es) ≡ best_of f q best (e ∷ es)
      go (above o a c) rec = rw (a, c) (sym (none-behind best e es o h))
      go (at_most a c) rec = rw (a, c) (rec (cond (eqb e.function f) (better best e) best))

-- The lookup, by what the order test and the choice answered

module _ (s : List ℕ) (at n f q : ℕ) (es : List Line) (m : found es ≡ lines_at s at n) where
  pub lookup-unsorted : {t : Bool} → t ≡ sorted es → t ≡ false → refused unsorted_map ≡ source_line_in s at n f q
  unfolding line_for
  lookup-unsorted z u = let o : sorted es ≡ false = sym z ∙ u in rw (← m, o)

  pub lookup-chosen : {t : Bool} {x : Option Line} → t ≡ sorted es → t ≡ true → x ≡ choice_of f q none es → present no_line x ≡ source_line_in s at n f q
  unfolding line_for
  lookup-chosen z u c = let o : sorted es ≡ true = sym z ∙ u in rw (← m, o, c, choice-is-best f q none es o)
