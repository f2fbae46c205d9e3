-- A text at a place of the section: what each test of the code says of it.
use Rattle.std.proofs.Common.{◌≡◌, ℕ, ◌+◌, ◌-◌, ◌≤◌, ◌<◌, Bool, true, false, List, length, drop, refl, ap, ◌∙◌, arith}
use Rattle.std.specs.Prelude.{take}
use mathlib.Core.Path.{subst}
use lib.ListN.{length-drop}
use borrow.Author.Tests.{eq-eqb, ne_eqb}
use Rattle.utf8.specs.Utf8.{valid_up_to, utf8}
use Rattle.utf8.proofs.Longest.{laws}
use Rattle.reading.specs.Fault.{Fault, short_input, bad_text}
use Rattle.reading.specs.Numbers.{le_at}
use Rattle.reading.specs.Reader.{fault, got, check, bytes, number}
use Rattle.reading.specs.Places.{stops, item, Reads, step_at}
use Rattle.reading.proofs.Parts.{length_part}
use Rattle.reading.proofs.Reading.{never, both, bytes-at, bytes-short, bytes-length, number_at}
use Rattle.reading.proofs.Width.{needs-bind, needs-none, fixed-bytes, fixed_number, fixed-width, width-number}
use Rattle.format.specs.Parts.{Place, Keep}
use Rattle.format.specs.Debug.{text, name, path}
use Rattle.base.proofs.Entries.{read_err, read_ok, read_short}
use Rattle.debug_text.specs.Answers.{keep_in}

module _ (base : ℕ) (s : List ℕ) (at n : ℕ) where
  pub text_short : length s - at < n → stops short_input ≡ step_at (text (keep_in base s) n) s at
  unfolding text
  text_short h = let l = length-drop at s in read_err (text (keep_in base s) n) s at short_input (rw (bytes-short n (drop at s) (omega arith)))

  module _ (h : at + n ≤ length s) where
    -- the good start of the text that stands there
    good-most : valid_up_to (take n (drop at s)) ≤ n
    good-most = let l = length_part s at n h in rw l at (laws.longest-valid-start (take n (drop at s))).within

    pub text_good : n ≤ valid_up_to (take n (drop at s)) → item (record { offset = base + at; size = n }) (at + n) ≡ step_at (text (keep_in base s) n) s at
    unfolding text utf8
    text_good g =
        let l = length_part s at n h in
        let d = length-drop at s in
        let m = good-most in
        let z : base + length s - (length s - at - n) - n ≡ base + at = omega arith in
        read_ok (text (keep_in base s) n) s at _ (at + n) h (rw (bytes-at n s at (at + n) refl h, eq-eqb (valid_up_to (take n (drop at s))) (length (take n (drop at s))) (omega arith), d, l, z))

    pub text_bad : valid_up_to (take n (drop at s)) < n → stops (bad_text (length s - (at + valid_up_to (take n (drop at s))))) ≡ step_at (text (keep_in base s) n) s at
    unfolding text utf8
    text_bad g =
        let l = length_part s at n h in
        read_err (text (keep_in base s) n) s at _
        (rw (bytes-at n s at (at + n) refl h, ne_eqb (valid_up_to (take n (drop at s))) (length (take n (drop at s))) (λ e. omega arith), length-drop at s) (ap (λ (k : ℕ). fault (bad_text k)) (omega arith)))

-- a text's place ends where reading continues
text-ends : (base : ℕ) (s x : List ℕ) (n : ℕ) (q : Place) (t : List ℕ) → length x ≤ length s → text (keep_in base s) n x ≡ got q t → q.offset + q.size + length t ≡ base + length s
unfolding text
text-ends base s x n q t h e =
    let b = both (bytes n x) e in
    let u = b.item in
    let c = both (check (utf8 u) (bad_text (length x - valid_up_to u)) b.middle) b.second in
    let p = checked-on (utf8 u) (bad_text (length x - valid_up_to u)) b.middle c.first in
    let w = (fixed-width (fixed-bytes n)).takes x u b.middle b.first in
    let l = bytes-length n x u b.middle b.first in
    let d = ap length w.0 ∙ length-drop n x in
    let i = w.1 in
    let y : keep_in base s u (length x - n) ≡ q = cc in
    let z : b.middle ≡ t = p ∙ cc in
    subst (λ (v : Place). v.offset + v.size + length t ≡ base + length s) y (subst (λ (v : List ℕ). base + length s - (length x - n) - length u + length u + length v ≡ base + length s) z (omega arith))
  where
    checked-on : (ok : Bool) (f : Fault) (m : List ℕ) {u : Unit {0}} {t : List ℕ} → check ok f m ≡ got u t → m ≡ t
    checked-on true f m e = cc
    checked-on false f m e = never e

-- so does a name's
pub name-ends : (base : ℕ) (s : List ℕ) (at : ℕ) (q : Place) (m : ℕ) → Reads (name (keep_in base s)) s at (item q m) → q.offset + q.size ≡ base + m
unfolding name
name-ends base s at q m g =
    let b = both (number 1 (drop at s)) g.1 in
    let w = (width-number 1).takes (drop at s) b.item b.middle b.first in
    let l = ap length w.0 ∙ length-drop 1 (drop at s) in
    let k = text-ends base s b.middle b.item q (drop m s) (omega (arith, length-drop at s)) b.second in
    let d = length-drop m s in
    let i = g.0 in
    omega arith

-- a length, then the text
module _ {T : Type 0} (keep : Keep T) (s : List ℕ) (at : ℕ) where
  pub name_short : length s - at < 1 → stops short_input ≡ step_at (name keep) s at
  unfolding name
  name_short h = read_short (name keep) s (needs-bind (fixed_number 1) (λ n. needs-none (text keep n))) at h

  pub path_short : length s - at < 2 → stops short_input ≡ step_at (path keep) s at
  unfolding path
  path_short h = read_short (path keep) s (needs-bind (fixed_number 2) (λ n. needs-none (text keep n))) at h

  module _ (n : ℕ) where
    pub name_text : at + 1 ≤ length s → n ≡ le_at 1 s at → step_at (text keep n) s (at + 1) ≡ step_at (name keep) s at
    unfolding name step_at
    name_text h e = rw (number_at 1 s at (at + 1) refl h, e)

    pub path_text : at + 2 ≤ length s → n ≡ le_at 2 s at → step_at (text keep n) s (at + 2) ≡ step_at (path keep) s at
    unfolding path step_at
    path_text h e = rw (number_at 2 s at (at + 2) refl h, e)
