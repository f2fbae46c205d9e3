-- Output in a buffer that the caller lends. A buffer is the list of its items, bytes or larger numbers: `before` at entry, `after` at exit.
use Rattle.std.specs.Prelude.{ℕ, ◌+◌, ◌≤◌, ◌≡◌, cond, List, ◌++◌, Option, Some, None, leb, length, take, drop}

-- the buffer is as it was
abbrev pub Unchanged : {A : Type 0} → List A → List A → Type 0
Unchanged before after = after ≡ before

-- the buffer with the text `t` at its start, and with it at the place `at`; the rest is as it was

abbrev pub put_at_start : {A : Type 0} → List A → List A → List A
put_at_start before t = t ++ drop (length t) before

abbrev pub put_in : {A : Type 0} → List A → ℕ → List A → List A
put_in before at t = take at before ++ t ++ drop (at + length t) before

-- the text, which fits, was written at the place `at`, and r is the place behind it
pub record Wrote {A : Type 0} (before : List A) (at : ℕ) (t after : List A) (r : ℕ) : Type 0 where
  pub fits : at + length t ≤ length before
  pub next : r ≡ at + length t
  pub buffer : after ≡ put_in before at t

-- Where the text is written only if it fits: what is answered, the place behind the text or that there is no room; and what the buffer then is

unfoldable pub put_answer : List ℕ → ℕ → List ℕ → Option ℕ
put_answer before at t = cond (leb (at + length t) (length before)) (Some (at + length t)) None

unfoldable pub put_or : List ℕ → ℕ → List ℕ → List ℕ
put_or before at t = cond (leb (at + length t) (length before)) (put_in before at t) before

-- r is answered: the whole text was written, or the buffer is as it was
pub record Puts (before : List ℕ) (at : ℕ) (t after : List ℕ) (r : Option ℕ) : Type 0 where
  pub answer : r ≡ put_answer before at t
  pub buffer : after ≡ put_or before at t

-- The same for a text that is written in parts. If not all of it fits, some parts may have been written: the buffer is as it was in front of the
-- place `at`, and the rest of it is left free
pub record PutsRestFree (before : List ℕ) (at : ℕ) (t after : List ℕ) (r : Option ℕ) : Type 0 where
  pub answer : r ≡ put_answer before at t
  pub front : take at after ≡ take at before
  pub text : at + length t ≤ length before → after ≡ put_in before at t
