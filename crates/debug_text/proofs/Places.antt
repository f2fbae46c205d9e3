-- The place of a bad text, from how many bytes of the section are left.
use Rattle.std.proofs.Common.{◌≡◌, ℕ, ◌+◌, ◌-◌, ◌≤◌, ◌<◌, List, length, drop, refl, ◌∙◌, sym, arith}
use Rattle.std.specs.Prelude.{take}
use native.Mathlib.Decide.{dec_le}
use borrow.Author.Tests.{ne_eqb}
use Rattle.utf8.specs.Utf8.{valid_up_to, utf8}
use Rattle.reading.specs.Fault.{short_input, bad_text}
use Rattle.reading.specs.Numbers.{le_at}
use Rattle.reading.specs.Reader.{Reader}
use Rattle.reading.specs.Places.{Step, stops, item, step_at}
use Rattle.reading.proofs.Parts.{length_part}
use Rattle.format.specs.Parts.{Place}
use Rattle.format.specs.Debug.{text, name, path}
use Rattle.requests.specs.BadPlace.{BadAt, BadText}
use Rattle.debug_text.specs.Answers.{keep_in, text_step}
use Rattle.debug_text.specs.Laws.{bad_at, Laws}
use Rattle.debug_text.proofs.Texts.{text_short, text_good, text_bad, name_short, name_text, path_short, path_text}

bad-left : {m n : ℕ} → ◌≡◌ {A = Step Place} (stops (bad_text m)) (stops (bad_text n)) → m ≡ n
bad-left e = cc

never-short : {B : Type 0} {n : ℕ} → ◌≡◌ {A = Step Place} (stops (bad_text n)) (stops short_input) → B
never-short e = absurd (let z : ◌≡◌ {A = ℕ} 0 1 = cc in omega arith)

never-item : {B : Type 0} {n : ℕ} {q : Place} {m : ℕ} → stops (bad_text n) ≡ item q m → B
never-item e = absurd (let z : ◌≡◌ {A = ℕ} 0 1 = cc in omega arith)

-- a bad text has a byte left, so the bytes that are left give its place
pub left-place : (s : List ℕ) (p : ℕ) → BadText s (length s - (length s - p)) → length s - (length s - p) ≡ p
left-place s p b = omega (arith, b.bad.within, b.bad.lies_whole)

module _ (base : ℕ) (s : List ℕ) where
  text-place : (at n p : ℕ) → at ≤ length s → text_step s (bad_at p) ≡ step_at (text (keep_in base s) n) s at → BadAt s at n p
  unfolding utf8
  text-place at n p i e = by (dec_le (at + n) (length s))
    where
      inside : at + n ≤ length s → Dec (n ≤ valid_up_to (take n (drop at s))) → BadAt s at n p
      inside h (yes g) = never-item (e ∙ sym (text_good base s at n h g))
      inside h (no g) =
          let l = length_part s at n h in
          let v = valid_up_to (take n (drop at s)) in
          let z : length s - p ≡ length s - (at + v) = bad-left (e ∙ sym (text_bad base s at n h (omega arith))) in
          record { lies_whole = h; not-utf8 = ne_eqb v (length (take n (drop at s))) (λ d. omega arith); place = omega arith; within = omega arith }

      by : Dec (at + n ≤ length s) → BadAt s at n p
      by (yes h) = inside h (dec_le n (valid_up_to (take n (drop at s))))
      by (no h) = never-short (e ∙ sym (text_short base s at n (omega arith)))

  -- a size of `w` bytes, then the text
  sized-place : (w at p : ℕ) (r : Reader Place) → (length s - at < w → stops short_input ≡ step_at r s at)
      → (at + w ≤ length s → step_at (text (keep_in base s) (le_at w s at)) s (at + w) ≡ step_at r s at)
      → at ≤ length s → text_step s (bad_at p) ≡ step_at r s at → BadAt s (at + w) (le_at w s at) p
  sized-place w at p r few reads i e = by (dec_le (at + w) (length s))
    where
      by : Dec (at + w ≤ length s) → BadAt s (at + w) (le_at w s at) p
      by (yes h) = text-place (at + w) (le_at w s at) p h (e ∙ sym (reads h))
      by (no h) = never-short (e ∙ sym (few (omega arith)))

pub laws : Laws
laws =
    record {
      places = λ base s at i.
          let keep = keep_in base s in
          record {
            text-place = λ n p. text-place base s at n p i;
            name-place = λ p. sized-place base s 1 at p (name keep) (name_short keep s at) (λ h. name_text keep s at (le_at 1 s at) h refl) i;
            path-place = λ p. sized-place base s 2 at p (path keep) (path_short keep s at) (λ h. path_text keep s at (le_at 2 s at) h refl) i;
            text-short = λ n h. text_short base s at n (omega arith);
          };
    }
