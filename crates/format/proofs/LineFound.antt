-- The line that the lookup finds is the last of those with the greatest offset not above the query.
use mathlib.Core.Path.{◌≡◌, refl, sym, ap, subst, ◌∙◌}
use mathlib.Core.Bool.{Bool, true, false, cond}
use mathlib.Core.List.Memᴰ
use mathlib.Core.List.{List, [], ◌∷◌, ◌++◌, append_assoc, append-nil, Memᴰ}
use mathlib.Core.Logic.{◌⊎◌, inl, inr, ⊎_elim}
use mathlib.Core.Option.{Option, none, some}
use Prim.Native.Nat.{ℕ, ◌≤◌, ◌<◌}
use native.Mathlib.Omega.{arith}
use lib.Dec.{leb}
use borrow.Author.Tests.{leb-true, leb-false}
use Rattle.reading.specs.Answer.{Got, refused, ◌>>◌, need, present}
use Rattle.format.specs.Faults.{no_line, unsorted_map}
use Rattle.format.specs.Debug.{Line}
use Rattle.format.specs.Lines.{sorted, candidate, better, best_of, line_for}
use Rattle.format.specs.LineFound.{Chosen, NoCandidate, LineFound}
use Rattle.format.proofs.Answers.{never, same-found}

-- what the best so far says of the entries before
abbrev Best : ℕ → ℕ → List Line → Option Line → Type 0
Best f q es none = NoCandidate f q es
Best f q es (some e) = Chosen f q es e

module _ (f q : ℕ) where
  clash : {A : Type 0} (d : Line) → candidate f q d ≡ true → candidate f q d ≡ false → A
  clash d h k = absurd (let z : ◌≡◌ {A = ℕ} 0 1 = cc in omega arith)

  -- no candidate of those chosen from has a greater offset
  greatest : (es : List Line) (e : Line) → Chosen f q es e → (d : Line) → Memᴰ d es → candidate f q d ≡ true → d.offset ≤ e.offset
  greatest es e c d m h = go (Memᴰ.append_cases c.before (subst (λ l. Memᴰ d l) c.split m))
    where
      go : Memᴰ d c.before ⊎ Memᴰ d (e ∷ c.behind) → d.offset ≤ e.offset
      go (inl k) = c.none-greater-before d k h
      go (inr (Memᴰ.head k)) = let z : d.offset ≡ e.offset = ap (λ l. l.offset) k in omega arith
      go (inr (Memᴰ.tail k)) = let z = c.all-less-behind d k h in omega arith

  -- one entry more, behind the others, that is not taken
  stays : (pre : List Line) (b e : Line) → Chosen f q pre b → (candidate f q e ≡ true → e.offset < b.offset) → Chosen f q (pre ++ (e ∷ [])) b
  stays pre b e c h =
      record {
        before = c.before;
        behind = c.behind ++ (e ∷ []);
        split = ap (λ l. l ++ (e ∷ [])) c.split ∙ append_assoc c.before (b ∷ c.behind) (e ∷ []);
        is-candidate = c.is-candidate;
        none-greater-before = c.none-greater-before;
        all-less-behind = λ d m k. go d k (Memᴰ.append_cases c.behind m);
      }
    where
      go : (d : Line) → candidate f q d ≡ true → Memᴰ d c.behind ⊎ Memᴰ d (e ∷ []) → d.offset < b.offset
      go d k (inl m) = c.all-less-behind d m k
      go d k (inr m) = let z = Memᴰ.eq_of_singleton m in rw z (h (rw z at k))

  -- and one that is
  takes : (pre : List Line) (e : Line) → candidate f q e ≡ true → ((d : Line) → Memᴰ d pre → candidate f q d ≡ true → d.offset ≤ e.offset) → Chosen f q (pre ++ (e ∷ [])) e
  takes pre e h k = record { before = pre; behind = []; split = refl; is-candidate = h; none-greater-before = k; all-less-behind = λ d m g. absurd (elim m [ ]) }

  step : (pre : List Line) (best : Option Line) (e : Line) (t : Bool) → candidate f q e ≡ t → Best f q pre best → Best f q (pre ++ (e ∷ [])) (cond t (better best e) best)
  step pre none e true h b = takes pre e h (λ d m g. clash d g (b d m))
  step pre none e false h b = λ d m. ⊎_elim (λ k. b d k) (λ k. ap (candidate f q) (Memᴰ.eq_of_singleton k) ∙ h) (Memᴰ.append_cases pre m)
  step pre (some c) e true h b = go (leb c.offset e.offset) refl
    where
      go : (u : Bool) → leb c.offset e.offset ≡ u → Best f q (pre ++ (e ∷ [])) (cond u (some e) (some c))
      go true g = takes pre e h (λ d m k. let y = leb-true c.offset e.offset g in let z = greatest pre c b d m k in omega arith)
      go false g = stays pre c e b (λ k. leb-false c.offset e.offset g)
  step pre (some c) e false h b = stays pre c e b (λ k. clash e k h)

  all : (es pre : List Line) (best : Option Line) → Best f q pre best → Best f q (pre ++ es) (best_of f q best es)
  all [] pre best b = rw (append-nil pre) b
  all (e ∷ es) pre best b =
      rw (append_assoc pre (e ∷ []) es) at (all es (pre ++ (e ∷ [])) (cond (candidate f q e) (better best e) best) (step pre best e (candidate f q e) refl b))

  best : (es : List Line) → Best f q es (best_of f q none es)
  best es = all es [] none (λ d m. absurd (elim m [ ]))

  -- two refusals with other numbers
  other : {B : Type 0} → ◌≡◌ {A = Got Line} (refused no_line) (refused unsorted_map) → B
  other e = absurd (let z : ◌≡◌ {A = ℕ} 13 14 = cc in omega arith)

  other_way : {B : Type 0} → ◌≡◌ {A = Got Line} (refused unsorted_map) (refused no_line) → B
  other_way e = absurd (let z : ◌≡◌ {A = ℕ} 13 14 = cc in omega arith)

  by_cases : (es : List Line) (z : Bool) (x : Option Line) → sorted es ≡ z → Best f q es x → line_for f q es ≡ (need z unsorted_map >> present no_line x) → LineFound f q es
  by_cases es false x s b e =
      record {
        unsorted = λ k. e;
        only-unsorted = λ k. s;
        none = λ k n. absurd (let z : ◌≡◌ {A = ℕ} 0 1 = cc in omega arith);
        only_none = λ k. other_way (sym e ∙ k);
        chosen = λ l k. never (sym e ∙ k);
      }
  by_cases es true none s b e =
      record {
        unsorted = λ k. absurd (let z : ◌≡◌ {A = ℕ} 0 1 = cc in omega arith);
        only-unsorted = λ k. other (sym e ∙ k);
        none = λ k n. e;
        only_none = λ k. (s, b);
        chosen = λ l k. never (sym e ∙ k);
      }
  by_cases es true (some c) s b e =
      record {
        unsorted = λ k. absurd (let z : ◌≡◌ {A = ℕ} 0 1 = cc in omega arith);
        only-unsorted = λ k. never (sym k ∙ e);
        none = λ k n. clash c b.is-candidate (n c (subst (λ l. Memᴰ c l) (sym b.split) (within b.before c b.behind)));
        only_none = λ k. never (sym k ∙ e);
        chosen = λ l k. let z : c ≡ l = same-found (sym e ∙ k) in (s, rw z at b);
      }
    where
      within : (xs : List Line) (y : Line) (ys : List Line) → Memᴰ y (xs ++ (y ∷ ys))
      within [] y ys = Memᴰ.head refl
      within (x ∷ xs) y ys = Memᴰ.tail (within xs y ys)

  pub line-found : (es : List Line) → LineFound f q es
  unfolding line_for
  line-found es = by_cases es (sorted es) (best_of f q none es) refl (best es) refl
