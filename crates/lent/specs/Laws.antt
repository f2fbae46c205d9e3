-- What is claimed of the definitions of `Output`, of any buffer, place and text.
use Rattle.std.specs.Prelude.{ℕ, ◌+◌, ◌≤◌, ◌<◌, ◌^◌, ◌≡◌, List, [], ◌++◌, Option, Some, None, length, take, drop}
use Rattle.reading.specs.Numbers.{le_at, bytes_le}
use Rattle.lent.specs.Output.{Unchanged, put_at_start, Wrote, Puts, PutsRestFree}

-- a text `t` written at the place `at` of the buffer a, which became b
pub record Written (a : List ℕ) (at : ℕ) (t b : List ℕ) (r : ℕ) : Type 0 where
  pub same_length : length b ≡ length a
  -- in front of the place and behind the text nothing moved, and the text is there
  pub in-front : take at b ≡ take at a
  pub there : take (length t) (drop at b) ≡ t
  pub behind : drop r b ≡ drop r a
  -- what the buffer holds up to the end of the text
  pub up_to : take r b ≡ take at a ++ t

pub record Laws : Type 0 where
  pub written : {a t b : List ℕ} {at r : ℕ} → Wrote a at t b r → Written a at t b r
  -- and nothing else is `Wrote`
  pub only : (a t b : List ℕ) (at : ℕ) → at + length t ≤ length a → Written a at t b (at + length t) → Wrote a at t b (at + length t)
  -- writing nothing
  pub nothing : {a b : List ℕ} {at r : ℕ} → Wrote a at [] b r → Unchanged a b
  -- two texts, one behind the other, are one text
  pub chained : {a b c s t : List ℕ} {at p q : ℕ} → Wrote a at s b p → Wrote b p t c q → Wrote a at (s ++ t) c q
  -- a text stays where it is when another is written behind it or in front of it
  pub stays-in-front : {a b c s t : List ℕ} {at p m q : ℕ} → Wrote a at s b p → Wrote b m t c q → p ≤ m → take (length s) (drop at c) ≡ s
  pub stays-behind : {a b c s t : List ℕ} {at p m q : ℕ} → Wrote a at s b p → Wrote b m t c q → q ≤ at → take (length s) (drop at c) ≡ s
  -- at the start of the buffer
  pub at-start : {a t b : List ℕ} {r : ℕ} → Wrote a 0 t b r → (r ≡ length t) × (b ≡ put_at_start a t)
  -- a number is read back from its bytes
  pub number-back : (w n : ℕ) {a b : List ℕ} {at r : ℕ} → n < 256 ^ w → Wrote a at (bytes_le w n) b r → le_at w b at ≡ n
  -- a text that is written if it fits: it fits, or it does not
  pub puts-fits : {a t b : List ℕ} {at : ℕ} {r : Option ℕ} → Puts a at t b r → at + length t ≤ length a → (r ≡ Some (at + length t)) × Wrote a at t b (at + length t)
  pub puts-lacks : {a t b : List ℕ} {at : ℕ} {r : Option ℕ} → Puts a at t b r → length a < at + length t → (r ≡ None) × Unchanged a b
  pub puts-rest-free : {a t b : List ℕ} {at : ℕ} {r : Option ℕ} → Puts a at t b r → PutsRestFree a at t b r
