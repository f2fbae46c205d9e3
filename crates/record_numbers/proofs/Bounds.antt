-- Numbers that fit their fields, and numbers that do not.
use Prim.Native.Nat.{ℕ, zero, suc, ◌<◌, ◌≤◌}
use mathlib.Core.Bool.{Bool, true, false, ◌&&◌, and-false, cond}
use mathlib.Core.List.{List, [], ◌∷◌, ◌++◌}
use mathlib.Core.Option.{none, some}
use mathlib.Core.Path.{◌≡◌, refl, sym, ap, ◌∙◌}
use native.Mathlib.Omega.{arith}
use borrow.Author.Tests.{le-leb, lt-leb, leb-true}
use lib.Dec.{leb, eqb}
use lib.ListN.{length, get_or, take}
use Rattle.std.proofs.lemmas.Bool.{and_parts}
use Rattle.std.specs.List.{list_all, zip}
use Rattle.format.specs.Record.{Container}
use Rattle.record_numbers.specs.ToNumbers.{head_numbers, directory_numbers, runtime_numbers, task_count_numbers, type_count_numbers, debug_count_numbers, lookup_numbers}
use Rattle.record_numbers.specs.FromNumbers.{number_count, most1, most2, most4, head_most, directory_most, runtime_most, task_count_most, type_count_most, debug_count_most, most_count, most_with, most_numbers, most_of_fields, fits, types_flag_at, debug_flag_at, number_at, record_by, record_of_first, record_of_numbers}
use Rattle.record_numbers.specs.Answers.{AllAtMost, fitting_of}
use Rattle.record_numbers.specs.Laws.{Fits}

-- too few numbers; a number that is too large
pub too_short : (ms ns : List ℕ) → length ns < length ms → fits ms ns ≡ false
unfolding fits
too_short [] ns h = absurd (omega arith)
too_short (m ∷ ms) [] h = refl
too_short (m ∷ ms) (n ∷ ns) h = rw (too_short ms ns (omega arith), and-false)

pub too-large-at : (ms ns : List ℕ) (k : ℕ) → k < length ms → get_or ms k 0 < get_or ns k 0 → fits ms ns ≡ false
unfolding fits
too-large-at [] ns k h g = absurd (omega arith)
too-large-at (m ∷ ms) [] k h g = refl
too-large-at (m ∷ ms) (n ∷ ns) zero h g = rw (lt-leb n m g)
too-large-at (m ∷ ms) (n ∷ ns) (suc k) h g = rw (too-large-at ms ns k (omega arith) g, and-false)

-- what fits a list fits every list that this one fits
fits_more : (cs bs ns : List ℕ) → fits cs bs ≡ true → fits bs ns ≡ true → fits cs ns ≡ true
unfolding fits
fits_more [] bs ns p q = refl
fits_more (c ∷ cs) [] ns p q = let z : ◌≡◌ {A = ℕ} 0 1 = cc in absurd (omega arith)
fits_more (c ∷ cs) (b ∷ bs) [] p q = let z : ◌≡◌ {A = ℕ} 0 1 = cc in absurd (omega arith)
fits_more (c ∷ cs) (b ∷ bs) (n ∷ ns) p q =
    let p' = and_parts (leb b c) (fits cs bs) p in
    let q' = and_parts (leb n b) (fits bs ns) q in
    rw (le-leb n c (omega (arith, leb-true b c p'.0, leb-true n b q'.0)), fits_more cs bs ns p'.1 q'.1)

-- what each number can be by the flags is at most what its field can hold
count_fits : (flag : ℕ) → most_count flag ≤ most2
count_fits flag = go (eqb flag 0)
  where
    go : (b : Bool) → cond b 0 most2 ≤ most2
    go true = omega arith
    go false = omega arith

most-fits : (t d : ℕ) → t ≤ most2 → d ≤ most2 → fits most_of_fields (most_with t d) ≡ true
unfolding fits
most-fits t d h g = rw (le-leb t most2 h, le-leb d most2 g)

pub fields_fit : (types debug : ℕ) (ns : List ℕ) → fits (most_numbers types debug) ns ≡ true → fits most_of_fields ns ≡ true
fields_fit types debug ns h = fits_more most_of_fields (most_numbers types debug) ns (most-fits (most_count types) (most_count debug) (count_fits types) (count_fits debug)) h

-- each number that fits is at most what its field can hold
pub fit_at : (ms ns : List ℕ) (k : ℕ) → fits ms ns ≡ true → k < length ms → get_or ns k 0 ≤ get_or ms k 0
unfolding fits
fit_at [] ns k h g = absurd (omega arith)
fit_at (m ∷ ms) [] k h g = let z : ◌≡◌ {A = ℕ} 0 1 = cc in absurd (omega arith)
fit_at (m ∷ ms) (n ∷ ns) zero h g = omega (arith, leb-true n m (and_parts (leb n m) (fits ms ns) h).0)
fit_at (m ∷ ms) (n ∷ ns) (suc k) h g = fit_at ms ns k (and_parts (leb n m) (fits ms ns) h).1 (omega arith)

-- the same of fields of 1, 2 and 4 bytes
pub at_most_1 : (ns : List ℕ) (k : ℕ) → fits most_of_fields ns ≡ true → get_or most_of_fields k 0 ≤ most1 → k < 44 → get_or ns k 0 ≤ most1
at_most_1 ns k h g e = omega (arith, fit_at most_of_fields ns k h e)

pub at_most_2 : (ns : List ℕ) (k : ℕ) → fits most_of_fields ns ≡ true → get_or most_of_fields k 0 ≤ most2 → k < 44 → get_or ns k 0 ≤ most2
at_most_2 ns k h g e = omega (arith, fit_at most_of_fields ns k h e)

pub at_most_4 : (ns : List ℕ) (k : ℕ) → fits most_of_fields ns ≡ true → get_or most_of_fields k 0 ≤ most4 → k < 44 → get_or ns k 0 ≤ most4
at_most_4 ns k h g e = omega (arith, fit_at most_of_fields ns k h e)

-- number by number, beside its bound
pub fits-pairs : (ms ns : List ℕ) → length ms ≤ length ns → list_all (λ (p : ℕ × ℕ). leb p.0 p.1) (zip ns ms) ≡ fits ms ns
unfolding fits
fits-pairs [] [] h = refl
fits-pairs [] (n ∷ ns) h = refl
fits-pairs (m ∷ ms) [] h = absurd (omega arith)
fits-pairs (m ∷ ms) (n ∷ ns) h = ap (λ (b : Bool). leb n m && b) (fits-pairs ms ns (omega arith))

-- numbers by their bounds
pub at_most : (ms ns : List ℕ) → AllAtMost ms ns → fits ms ns ≡ true
unfolding fits
at_most [] [] h = refl
at_most [] (n ∷ ns) h = absurd h
at_most (m ∷ ms) [] h = absurd h
at_most (m ∷ ms) (n ∷ ns) h = rw (le-leb n m h.0, at_most ms ns h.1)

pub join : (ms ns ms' ns' : List ℕ) → AllAtMost ms ns → AllAtMost ms' ns' → AllAtMost (ms ++ ms') (ns ++ ns')
join [] [] ms' ns' h g = g
join [] (n ∷ ns) ms' ns' h g = absurd h
join (m ∷ ms) [] ms' ns' h g = absurd h
join (m ∷ ms) (n ∷ ns) ms' ns' h g = (h.0, join ms ns ms' ns' h.1 g)

-- the numbers of a record, part by part
module _ (r : Container) where
  abbrev places : List ℕ
  places = (0 ∷ head_numbers r.header) ++ directory_numbers r.header.directory

  abbrev header : List ℕ
  header = places ++ runtime_numbers r.header.runtime

  abbrev tasks : List ℕ
  tasks = header ++ task_count_numbers r.tasks

  abbrev types : List ℕ
  types = tasks ++ type_count_numbers r.types

  abbrev places-most : List ℕ
  places-most = (0 ∷ head_most) ++ directory_most

  abbrev header-most : List ℕ
  header-most = places-most ++ runtime_most

  abbrev tasks-most : List ℕ
  tasks-most = header-most ++ task_count_most

  abbrev types-most : List ℕ
  types-most = tasks-most ++ type_count_most most2

  pub record-fits : AllAtMost (0 ∷ head_most) (0 ∷ head_numbers r.header) → AllAtMost directory_most (directory_numbers r.header.directory) → AllAtMost runtime_most (runtime_numbers r.header.runtime)
      → AllAtMost task_count_most (task_count_numbers r.tasks) → AllAtMost (type_count_most most2) (type_count_numbers r.types) → AllAtMost (most2 ∷ []) (r.constants ∷ [])
      → AllAtMost (debug_count_most most2) (debug_count_numbers r.debug) → Fits r
  record-fits h d u t y k g =
      let with-places : AllAtMost places-most places = join (0 ∷ head_most) (0 ∷ head_numbers r.header) directory_most (directory_numbers r.header.directory) h d in
      let with-header : AllAtMost header-most header = join places-most places runtime_most (runtime_numbers r.header.runtime) with-places u in
      let with-tasks : AllAtMost tasks-most tasks = join header-most header task_count_most (task_count_numbers r.tasks) with-header t in
      let with-types : AllAtMost types-most types = join tasks-most tasks (type_count_most most2) (type_count_numbers r.types) with-tasks y in
      let with-constants : AllAtMost (types-most ++ (most2 ∷ [])) (types ++ (r.constants ∷ [])) = join types-most types (most2 ∷ []) (r.constants ∷ []) with-types k in
      record {
        all =
            at_most most_of_fields (0 ∷ lookup_numbers r)
            (join (types-most ++ (most2 ∷ [])) (types ++ (r.constants ∷ [])) (debug_count_most most2) (debug_count_numbers r.debug) with-constants g);
      }

-- The record of the first numbers

module _ (ns : List ℕ) where
  pub no_record : fits (most_numbers (number_at ns types_flag_at) (number_at ns debug_flag_at)) ns ≡ false → record_of_first ns ≡ none
  unfolding record_of_first
  no_record h = rw h

-- numbers that fit, or do not, by the test
no-fitting : (ns : List ℕ) → none ≡ fitting_of ns → record_of_first ns ≡ none
unfolding record_of_first
no-fitting ns h = grind arith

by-fitting : (ns ms : List ℕ) → some ms ≡ fitting_of ns → record_of_first ns ≡ some (record_by (number_at ms))
unfolding record_of_first
by-fitting ns ms h = grind arith

-- the same for the first 44 of a list
module _ (numbers n : List ℕ) (first : n ≡ take number_count numbers) where
  pub turned-away : none ≡ fitting_of n → none ≡ record_of_numbers numbers
  turned-away h = rw (← first) (sym (no-fitting n h))

  pub accepted : (ms : List ℕ) {c : Container} → some ms ≡ fitting_of n → c ≡ record_by (number_at ms) → some c ≡ record_of_numbers numbers
  accepted ms h e = rw (← first) (ap some e ∙ sym (by-fitting n ms h))
