-- The laws of numbers and records.
use Prim.Native.Nat.{ℕ, zero, suc, ◌+◌, ◌-◌, ◌<◌, ◌≤◌}
use mathlib.Core.Bool.{Bool, true, false, cond}
use mathlib.Core.List.{List, ◌∷◌, ◌++◌}
use mathlib.Core.Option.{Option, none, some}
use mathlib.Core.Path.{◌≡◌, refl, sym, ap, ◌∙◌}
use native.Mathlib.Omega.{arith}
use lib.ListN.{length, get_or, take, drop, replicate}
use lib.Seq.{take-append-le, get_or-take, get_or-drop, take_all}
use Rattle.format.specs.Record.{TypeCounts, DebugCounts, Container}
use Rattle.record_numbers.specs.ToNumbers.{lookup_numbers, record_numbers}
use Rattle.record_numbers.specs.FromNumbers.{number_count, most_count, most_with, most_numbers, most_of_fields, fits, record_of_first, record_of_numbers, number_at, types_flag_at, constants_place, debug_flag_at}
use Rattle.record_numbers.specs.Laws.{kept_in_numbers, Laws}
use Rattle.record_numbers.proofs.Mill.{mill-numbers}
use Rattle.record_numbers.proofs.Bounds.{too_short, too-large-at, no_record, fields_fit}

-- a record with these types and debug
abbrev with-sections : Container → Option TypeCounts → Option DebugCounts → Container
with-sections c t d = record { header = c.header; tasks = c.tasks; types = t; constants = c.constants; debug = d; in_force = c.in_force }

back : (c : Container) (more : List ℕ) (t : Option TypeCounts) (d : Option DebugCounts) → fits most_of_fields (0 ∷ lookup_numbers (with-sections c t d)) ≡ true
    → record_of_numbers ((0 ∷ lookup_numbers (with-sections c t d)) ++ more) ≡ some (kept_in_numbers (with-sections c t d))
unfolding record_of_first fits
back c more none none h = ap (λ (b : Bool). cond b (some (kept_in_numbers (with-sections c none none))) none) h
back c more none (some d) h = ap (λ (b : Bool). cond b (some (kept_in_numbers (with-sections c none (some d)))) none) h
back c more (some t) none h = ap (λ (b : Bool). cond b (some (kept_in_numbers (with-sections c (some t) none))) none) h
back c more (some t) (some d) h = ap (λ (b : Bool). cond b (some (kept_in_numbers (with-sections c (some t) (some d)))) none) h

count_by : (c : Container) (t : Option TypeCounts) (d : Option DebugCounts) → (length (0 ∷ lookup_numbers (with-sections c t d)) ≡ number_count) × (length (0 ∷ record_numbers (with-sections c t d)) ≡ number_count + 18)
count_by c none none = (refl, refl)
count_by c none (some d) = (refl, refl)
count_by c (some t) none = (refl, refl)
count_by c (some t) (some d) = (refl, refl)

first_count : (ns more : List ℕ) → number_count ≤ length ns → record_of_numbers (ns ++ more) ≡ record_of_numbers ns
first_count ns more h = ap record_of_first (take-append-le number_count ns more h)

pub too_few : (ns : List ℕ) → length ns < number_count → record_of_numbers ns ≡ none
too_few ns h =
    let e : take number_count ns ≡ ns = take_all number_count ns (omega arith) in
    ap record_of_first e ∙ no_record ns (too_short (most_numbers (number_at ns types_flag_at) (number_at ns debug_flag_at)) ns h)

-- a test that fails with another
false-with : (a b : Bool) → (a ≡ true → b ≡ true) → b ≡ false → a ≡ false
false-with true b h e = let b-is : b ≡ true = h refl in let q : ◌≡◌ {A = ℕ} 0 1 = cc in absurd (omega arith)
false-with false b h e = refl

-- three zeros; six zeros
three-zeros : (rest : List ℕ) (j : ℕ) → j < 3 → get_or (0 ∷ 0 ∷ 0 ∷ rest) j 0 ≡ 0
three-zeros rest zero h = refl
three-zeros rest (suc zero) h = refl
three-zeros rest (suc (suc zero)) h = refl
three-zeros rest (suc (suc (suc j))) h = absurd (omega arith)

all-zeros : (m j : ℕ) → let zeros : List ℕ = replicate m 0 in get_or zeros j 0 ≡ 0
all-zeros zero j = refl
all-zeros (suc m) zero = refl
all-zeros (suc m) (suc j) = all-zeros m j

types-zero : (debug k : ℕ) → types_flag_at < k → k < constants_place → get_or (most_with 0 debug) k 0 ≡ 0
types-zero debug k h g =
    let e : k ≡ 33 + (k - 33) = omega arith in
    ap (λ (i : ℕ). get_or (most_with 0 debug) i 0) e ∙ sym (get_or-drop 33 (most_with 0 debug) (k - 33) 0) ∙ three-zeros (drop 36 (most_with 0 debug)) (k - 33) (omega arith)

debug-zero : (types k : ℕ) → debug_flag_at < k → get_or (most_with types 0) k 0 ≡ 0
debug-zero types k h =
    let e : k ≡ 38 + (k - 38) = omega arith in
    ap (λ (i : ℕ). get_or (most_with types 0) i 0) e ∙ sym (get_or-drop 38 (most_with types 0) (k - 38) 0) ∙ all-zeros 6 (k - 38)

module _ (ns : List ℕ) (k : ℕ) where
  abbrev first : List ℕ
  first = take number_count ns

  abbrev types : ℕ
  types = number_at (take number_count ns) types_flag_at

  abbrev debug : ℕ
  debug = number_at (take number_count ns) debug_flag_at

  same_at : (i : ℕ) → i < number_count → number_at first i ≡ number_at ns i
  same_at i h = get_or-take number_count ns i 0 h

  too_large : k < number_count → get_or most_of_fields k 0 < number_at ns k → record_of_numbers ns ≡ none
  too_large h g =
      no_record first
      (false-with (fits (most_numbers types debug) first) (fits most_of_fields first) (fields_fit types debug first)
      (too-large-at most_of_fields first k h (rw (same_at k h) g)))

  no-types : types_flag_at < k → k < constants_place → number_at ns types_flag_at ≡ 0 → 0 < number_at ns k → record_of_numbers ns ≡ none
  no-types h g e p =
      let none-there : types ≡ 0 = same_at types_flag_at (omega arith) ∙ e in
      let bound : get_or (most_numbers types debug) k 0 ≡ 0 = ap (λ (t : ℕ). get_or (most_numbers t debug) k 0) none-there ∙ types-zero (most_count debug) k h g in
      no_record first (too-large-at (most_numbers types debug) first k (omega arith) (rw (bound, same_at k (omega arith)) p))

  no-debug : debug_flag_at < k → k < number_count → number_at ns debug_flag_at ≡ 0 → 0 < number_at ns k → record_of_numbers ns ≡ none
  no-debug h g e p =
      let none-there : debug ≡ 0 = same_at debug_flag_at (omega arith) ∙ e in
      let bound : get_or (most_numbers types debug) k 0 ≡ 0 = ap (λ (d : ℕ). get_or (most_numbers types d) k 0) none-there ∙ debug-zero (most_count types) k h in
      no_record first (too-large-at (most_numbers types debug) first k (omega arith) (rw (bound, same_at k g) p))

pub laws : Laws
laws =
    record {
      how-many = λ c. count_by c c.types c.debug;
      comes_back = λ c more h. back c more c.types c.debug h.all;
      first_count = first_count;
      too_few = too_few;
      first-zero = λ ns h. too_large ns 0 (omega arith) h;
      types-flag = λ ns h. too_large ns types_flag_at (omega arith) h;
      debug-flag = λ ns h. too_large ns debug_flag_at (omega arith) h;
      too_large = too_large;
      no-types = no-types;
      no-debug = no-debug;
      rows-in-order = refl;
      mill-numbers = mill-numbers;
    }
