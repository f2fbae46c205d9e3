-- Slip 1: a debug section that does not read ends before an announced item, or its first fault is a name or a path that is not UTF-8.
use Prim.Native.Nat.{ℕ, zero, suc, ◌+◌, ◌-◌, ◌≤◌, ◌<◌}
use native.Mathlib.Omega.{arith}
use native.Mathlib.Decide.{dec_le}
use mathlib.Core.Path.{◌≡◌, refl, sym, ap, ◌∙◌}
use mathlib.Core.Bool.{Bool, true, false, ◌&&◌, not, cond}
use mathlib.Core.List.{List, [], ◌∷◌, ◌++◌}
use mathlib.Core.Option.{Option, none, some}
use lib.Dec.{leb}
use lib.ListN.{length, take, drop, length-drop, length-append}
use lib.Seq.{take_at, length-take-le}
use borrow.Author.Tests.{le-leb, lt-leb, eq-eqb}
use Rattle.utf8.specs.Utf8.{valid_up_to, utf8}
use Rattle.utf8.proofs.Longest.{laws}
use Rattle.reading.specs.Fault.{Fault, refusal, bad_text, short_input}
use Rattle.reading.specs.Numbers.{le, le_at}
use Rattle.reading.specs.Reader.{Read, fault, got, Reader, next, ◌>>=◌, give, bytes, number, many, counted}
use Rattle.reading.proofs.Reading.{never, bytes-at, bytes-short, number_at}
use Rattle.reading.proofs.Parts.{length_part, part-of-front}
use Rattle.format.specs.Parts.{limit, Place, cut, is_inside, by_bytes}
use Rattle.format.specs.Header.{Header}
use Rattle.format.specs.Debug.{text, name, path, line, variable, function_name, string_layout, source_file, enumeration, Row, tag_of, size_of, kind_of, payload_of, Tables, put, tables_of, no_tables, rows_of, debug_tables}
use Rattle.format.specs.Debug.{Kind, lines, variables, functions, strings, files, enumerations, unknown, payload}
use Rattle.format.specs.Load.{readable, debug_sized, debug_inside, debug_hash_right, debug_of, debug_found, empty, outside, hash_differs, unreadable, state_of_read, debug_state}
use Rattle.format.proofs.Answers.{absent, same_some}
use Rattle.format.proofs.Places.{length_cut}
use Rattle.format.proofs.Loads.{facts}
use Rattle.requests.specs.BadPlace.{place_of, place_read, bad_place, bad_place_at, Announced, BadText, FirstFault, BadPlaces, BadPlacesInFiles, StillNone}
use Rattle.requests.specs.BadPlace as of

-- Reading stops in one way

short-bad : {A B : Type 0} {n : ℕ} → ◌≡◌ {A = Read A} (fault short_input) (fault (bad_text n)) → B
short-bad e = absurd (let z : ◌≡◌ {A = ℕ} 0 1 = cc in omega arith)

same-bad : {A : Type 0} {m n : ℕ} → ◌≡◌ {A = Read A} (fault (bad_text m)) (fault (bad_text n)) → m ≡ n
same-bad e = cc

same-fault : {A : Type 0} {f g : Fault} → ◌≡◌ {A = Read A} (fault f) (fault g) → f ≡ g
same-fault e = cc

-- The section `w`, read beside each section of its first `k` bytes
module _ (w : List ℕ) where
  -- `x` if the first `k` bytes reach to the place `to`; else they are too short
  abbrev seen : {A : Type 0} → ℕ → ℕ → Read A → Read A
  seen k to x = cond (leb to k) x (fault short_input)

  -- what reading comes to from the place `at` on: `x` in the section, `y k` in its first `k` bytes
  abbrev Told : {A : Type 0} → ℕ → Read A → (ℕ → Read A) → Type 0
  Told at (fault (refusal n vs)) y = (refusal n vs ≡ short_input) × ((k : ℕ) → k ≤ length w → y k ≡ fault short_input)
  Told at (fault (bad_text left)) y = (b : BadText w (length w - left)) × ((k : ℕ) → k ≤ length w → y k ≡ seen k (b.at + b.size) (fault (bad_text (left - (length w - k)))))
  Told at (got a rest) y = (to : ℕ) × (at ≤ to) × (to ≤ length w) × (rest ≡ drop to w) × ((k : ℕ) → k ≤ length w → y k ≡ seen k to (got a (drop to (take k w))))

  abbrev Tells : {A : Type 0} → Reader A → Type 0
  Tells r = (at : ℕ) → at ≤ length w → Told at (r (drop at w)) (λ k. seen k at (r (drop at (take k w))))

  -- Closed under `do`

  seen_next : {A B : Type 0} (k to : ℕ) (x : Read A) (go : A → Reader B) → next (seen k to x) go ≡ seen k to (next x go)
  seen_next k to x go = by (leb to k)
    where
      by : (z : Bool) → next (cond z x (fault short_input)) go ≡ cond z (next x go) (fault short_input)
      by true = refl
      by false = refl

  told-as : {A : Type 0} (at to : ℕ) (x : Read A) (y z : ℕ → Read A) → at ≤ to → ((k : ℕ) → k ≤ length w → z k ≡ y k) → Told to x y → Told at x z
  told-as at to (fault (refusal n vs)) y z i e (h, g) = (h, λ k l. e k l ∙ g k l)
  told-as at to (fault (bad_text left)) y z i e (b, g) = (b, λ k l. e k l ∙ g k l)
  told-as at to (got a rest) y z i e (m, j, h, d, g) = (m, omega arith, h, d, λ k l. e k l ∙ g k l)

  told-next : {A B : Type 0} (at : ℕ) (go : A → Reader B) (x : Read A) (y : ℕ → Read A) → Told at x y → ((a : A) → Tells (go a)) → Told at (next x go) (λ k. next (y k) go)
  told-next at go (fault (refusal n vs)) y (h, e) g = (h, λ k l. ap (λ v. next v go) (e k l))
  told-next at go (fault (bad_text left)) y (b, e) g = (b, λ k l. ap (λ v. next v go) (e k l) ∙ seen_next k (b.at + b.size) (fault (bad_text (left - (length w - k)))) go)
  told-next at go (got a rest) y (to, i, j, d, e) g =
      rw d
      (told-as at to (go a (drop to w)) (λ k. seen k to (go a (drop to (take k w)))) (λ k. next (y k) go) i
      (λ k l. ap (λ v. next v go) (e k l) ∙ seen_next k to (got a (drop to (take k w))) go)
      (g a to j))

  tells-then : {A B : Type 0} (r : Reader A) (go : A → Reader B) → Tells r → ((a : A) → Tells (go a)) → Tells (r >>= go)
  tells-then r go h g at i =
      told-as at at (next (r (drop at w)) go) (λ k. next (seen k at (r (drop at (take k w)))) go) (λ k. seen k at (next (r (drop at (take k w))) go)) (omega arith)
      (λ k l. sym (seen_next k at (r (drop at (take k w))) go))
      (told-next at go (r (drop at w)) (λ k. seen k at (r (drop at (take k w)))) (h at i) g)

  tells-give : {A : Type 0} (a : A) → Tells (give a)
  tells-give a at i = (at, omega arith, i, refl, λ k l. refl)

  -- a reader of `n` bytes or more, behind what the first `k` bytes hold
  beyond : {A : Type 0} (r : Reader A) (n at k : ℕ) → k ≤ length w → ((s : List ℕ) → length s < n → r s ≡ fault short_input) → k < at + n
      → seen k at (r (drop at (take k w))) ≡ fault short_input
  beyond r n at k l e h = by (dec_le at k)
    where
      by : Dec (at ≤ k) → seen k at (r (drop at (take k w))) ≡ fault short_input
      by (yes i) = rw (le-leb at k i) (e (drop at (take k w)) (omega (arith, length-drop at (take k w), length-take-le k w l)))
      by (no i) = rw (lt-leb at k (omega arith))

  -- such a reader, by what it gives where the bytes are there
  told-by : {A : Type 0} (r : Reader A) (n at : ℕ) (x : A) → at + n ≤ length w → ((s : List ℕ) → length s < n → r s ≡ fault short_input)
      → ((s : List ℕ) → at + n ≤ length s → take n (drop at s) ≡ take n (drop at w) → r (drop at s) ≡ got x (drop (at + n) s)) → Told at (r (drop at w)) (λ k. seen k at (r (drop at (take k w))))
  told-by r n at x h short e = rw (e w h refl) (at + n, omega arith, h, refl, λ k l. by k l (dec_le (at + n) k))
    where
      by : (k : ℕ) → k ≤ length w → Dec (at + n ≤ k) → seen k at (r (drop at (take k w))) ≡ seen k (at + n) (got x (drop (at + n) (take k w)))
      by k l (yes i) = rw (le-leb at k (omega arith), le-leb (at + n) k i) (e (take k w) (omega (arith, length-take-le k w l)) (part-of-front w k at n i))
      by k l (no i) = rw (lt-leb (at + n) k (omega arith)) (beyond r n at k l short (omega arith))

  told-short : {A : Type 0} (r : Reader A) (n at : ℕ) → length w < at + n → ((s : List ℕ) → length s < n → r s ≡ fault short_input) → at ≤ length w → Told at (r (drop at w)) (λ k. seen k at (r (drop at (take k w))))
  told-short r n at h short i = rw (short (drop at w) (omega (arith, length-drop at w))) (refl, λ k l. beyond r n at k l short (omega arith))

  tells-bytes : (n : ℕ) → Tells (bytes n)
  tells-bytes n at i = by (dec_le (at + n) (length w))
    where
      by : Dec (at + n ≤ length w) → Told at (bytes n (drop at w)) (λ k. seen k at (bytes n (drop at (take k w))))
      by (yes h) = told-by (bytes n) n at (take n (drop at w)) h (bytes-short n) (λ s l e. bytes-at n s at (at + n) refl l ∙ ap (λ v. got v (drop (at + n) s)) e)
      by (no h) = told-short (bytes n) n at (omega arith) (bytes-short n) i

  tells-number : (n : ℕ) → Tells (number n)
  tells-number n = tells-then (bytes n) _ (tells-bytes n) (λ b. tells-give (le b))

  number-then : {B : Type 0} (n : ℕ) (go : ℕ → Reader B) → ((a : ℕ) → Tells (go a)) → Tells (number n >>= go)
  number-then n go g = tells-then (number n) go (tells-number n) g

  tells-many : {A : Type 0} (n : ℕ) (r : Reader A) → Tells r → Tells (many n r)
  tells-many zero r h = tells-give []
  tells-many (suc n) r h = tells-then r _ h (λ a. tells-then (many n r) _ (tells-many n r h) (λ xs. tells-give (a ∷ xs)))

  tells-counted : {A : Type 0} (r : Reader A) → Tells r → Tells (counted r)
  tells-counted r h = number-then 2 _ (λ n. tells-many n r h)

  -- Names and paths

  -- the text at `at` that is announced there, in `w` or in a section with the same bytes up to the text's end
  module _ (at n : ℕ) (a : Announced w at n) where
    abbrev it : List ℕ
    it = take n (drop at w)

    text-short : (s : List ℕ) → length s < n → text by_bytes n s ≡ fault short_input
    unfolding text
    text-short s h = rw (bytes-short n s h)

    module _ (h : at + n ≤ length w) where
      text-good : utf8 it ≡ true → (s : List ℕ) → at + n ≤ length s → take n (drop at s) ≡ it → text by_bytes n (drop at s) ≡ got it (drop (at + n) s)
      unfolding text
      text-good u s l e = rw (bytes-at n s at (at + n) refl l, e, u)

      text-bad : utf8 it ≡ false → (s : List ℕ) → at + n ≤ length s → take n (drop at s) ≡ it → text by_bytes n (drop at s) ≡ fault (bad_text (length (drop at s) - valid_up_to it))
      unfolding text
      text-bad u s l e = rw (bytes-at n s at (at + n) refl l, e, u)

      valid-less : utf8 it ≡ false → valid_up_to it < n
      unfolding utf8
      valid-less u = by (dec_le n (valid_up_to it)) (length_part w at n h) (laws.longest-valid-start it).within
        where
          by : Dec (n ≤ valid_up_to it) → length it ≡ n → valid_up_to it ≤ length it → valid_up_to it < n
          by (no i) l m = omega arith
          by (yes i) l m = absurd (let z = sym (eq-eqb (valid_up_to it) (length it) (omega arith)) ∙ u in let y : ◌≡◌ {A = ℕ} 0 1 = cc in omega arith)

      -- the place that the fault tells
      bad-text : utf8 it ≡ false → BadText w (length w - (length (drop at w) - valid_up_to it))
      bad-text u =
          let v = valid-less u in
          let d = length-drop at w in
          record { at = at; size = n; announced = a; bad = record { lies_whole = h; not-utf8 = u; place = omega arith; within = omega arith } }

      told_text : (z : Bool) → utf8 it ≡ z → Told at (text by_bytes n (drop at w)) (λ k. seen k at (text by_bytes n (drop at (take k w))))
      unfolding bad-text
      told_text true u = told-by (text by_bytes n) n at it h text-short (text-good u)
      told_text false u = rw (text-bad u w h refl) (bad-text u, λ k l. by k l (dec_le (at + n) k))
        where
          by : (k : ℕ) → k ≤ length w → Dec (at + n ≤ k)
              → seen k at (text by_bytes n (drop at (take k w))) ≡ seen k (at + n) (fault (bad_text (length (drop at w) - valid_up_to it - (length w - k))))
          by k l (yes i) =
              let c = length-take-le k w l in
              let d = length-drop at w in
              let e = length-drop at (take k w) in
              let v = valid-less u in
              rw (le-leb at k (omega arith), le-leb (at + n) k i)
              (text-bad u (take k w) (omega arith) (part-of-front w k at n i) ∙ ap (λ (m : ℕ). fault (bad_text m)) (omega arith))
          by k l (no i) = rw (lt-leb (at + n) k (omega arith)) (beyond (text by_bytes n) n at k l text-short (omega arith))

    tells-text : at ≤ length w → Told at (text by_bytes n (drop at w)) (λ k. seen k at (text by_bytes n (drop at (take k w))))
    tells-text i = by (dec_le (at + n) (length w))
      where
        by : Dec (at + n ≤ length w) → Told at (text by_bytes n (drop at w)) (λ k. seen k at (text by_bytes n (drop at (take k w))))
        by (yes h) = told_text h (utf8 it) refl
        by (no h) = told-short (text by_bytes n) n at (omega arith) text-short i

  -- a size of `n` bytes, then the text
  abbrev sized : ℕ → Reader (List ℕ)
  sized n = number n >>= text by_bytes

  sized-short : (n : ℕ) (s : List ℕ) → length s < n → sized n s ≡ fault short_input
  sized-short n s h = rw (bytes-short n s h)

  sized-at : (n at v : ℕ) (s : List ℕ) → at + n ≤ length s → le_at n s at ≡ v → sized n (drop at s) ≡ text by_bytes v (drop (at + n) s)
  sized-at n at v s h e = rw (number_at n s at (at + n) refl h, e)

  tells-sized : (n : ℕ) → ((at : ℕ) → Announced w (at + n) (le_at n w at)) → Tells (sized n)
  tells-sized n a at i = by (dec_le (at + n) (length w))
    where
      in_start : (k : ℕ) → k ≤ length w → Dec (at + n ≤ k) → seen k at (sized n (drop at (take k w))) ≡ seen k (at + n) (text by_bytes (le_at n w at) (drop (at + n) (take k w)))
      in_start k l (yes j) =
          rw (le-leb at k (omega arith), le-leb (at + n) k j)
          (sized-at n at (le_at n w at) (take k w) (omega (arith, length-take-le k w l)) (ap le (part-of-front w k at n j)))
      in_start k l (no j) = rw (lt-leb (at + n) k (omega arith)) (beyond (sized n) n at k l (sized-short n) (omega arith))

      by : Dec (at + n ≤ length w) → Told at (sized n (drop at w)) (λ k. seen k at (sized n (drop at (take k w))))
      by (yes h) =
          rw (sized-at n at (le_at n w at) w h refl)
          (told-as at (at + n) (text by_bytes (le_at n w at) (drop (at + n) w)) (λ k. seen k (at + n) (text by_bytes (le_at n w at) (drop (at + n) (take k w)))) (λ k. seen k at (sized n (drop at (take k w))))
          (omega arith)
          (λ k l. in_start k l (dec_le (at + n) k))
          (tells-text (at + n) (le_at n w at) (a at) h))
      by (no h) = told-short (sized n) n at (omega arith) (sized-short n) i

  tells-name : Tells (name by_bytes)
  unfolding name
  tells-name = tells-sized 1 of.name

  tells-path : Tells (path by_bytes)
  unfolding path
  tells-path = tells-sized 2 of.path

  -- Entries

  tells-line : Tells line
  unfolding line
  tells-line = number-then 2 _ λ f. number-then 2 _ λ o. number-then 2 _ λ i. number-then 2 _ λ l. number-then 2 _ λ c. tells-give _

  tells-variable : Tells (variable by_bytes)
  unfolding variable
  tells-variable =
      number-then 2 _ λ i.
      number-then 2 _ λ f.
      number-then 1 _ λ s.
      number-then 1 _ λ t.
      tells-then (name by_bytes) _ tells-name λ n.
      tells-then (name by_bytes) _ tells-name λ y. tells-give _

  tells-function_name : Tells (function_name by_bytes)
  unfolding function_name
  tells-function_name = number-then 2 _ λ i. tells-then (name by_bytes) _ tells-name λ n. tells-give _

  tells-string_layout : Tells string_layout
  unfolding string_layout
  tells-string_layout = number-then 2 _ λ v. number-then 4 _ λ d. number-then 2 _ λ m. tells-give _

  tells-source_file : Tells (source_file by_bytes)
  unfolding source_file
  tells-source_file = tells-then (path by_bytes) _ tells-path λ p. tells-then (bytes 32) _ (tells-bytes 32) λ h. tells-give _

  tells-enumeration : Tells (enumeration by_bytes)
  unfolding enumeration
  tells-enumeration = tells-then (name by_bytes) _ tells-name λ n. tells-then (counted (name by_bytes)) _ (tells-counted (name by_bytes) tells-name) λ vs. tells-give _

  -- where such an entry stops at a bad text, its place is told
  abbrev pub Placed : {A : Type 0} → Reader A → Type 0
  Placed r = (at left : ℕ) → at ≤ length w → r (drop at w) ≡ fault (bad_text left) → BadText w (length w - left)

  placed : {A : Type 0} (r : Reader A) → Tells r → Placed r
  placed {A} r h at left i e = by (r (drop at w)) (h at i) e
    where
      by : (x : Read A) → Told at x (λ k. seen k at (r (drop at (take k w)))) → x ≡ fault (bad_text left) → BadText w (length w - left)
      by (fault (refusal n vs)) (d, g) e = short-bad (ap fault (sym d) ∙ e)
      by (fault (bad_text m)) (b, g) e = let z : m ≡ left = same-bad e in rw z at b
      by (got a rest) d e = never (sym e)

  pub placed-variable : Placed (variable by_bytes)
  placed-variable = placed (variable by_bytes) tells-variable

  pub placed-function_name : Placed (function_name by_bytes)
  placed-function_name = placed (function_name by_bytes) tells-function_name

  pub placed-source_file : Placed (source_file by_bytes)
  placed-source_file = placed (source_file by_bytes) tells-source_file

  pub placed-enumeration : Placed (enumeration by_bytes)
  placed-enumeration = placed (enumeration by_bytes) tells-enumeration

  -- The section

  tells-payload : (kind : Kind) (size : ℕ) → Tells (payload by_bytes kind size)
  tells-payload lines size = tells-then (counted line) _ (tells-counted line tells-line) λ es. tells-give _
  tells-payload variables size = tells-then (counted (variable by_bytes)) _ (tells-counted (variable by_bytes) tells-variable) λ es. tells-give _
  tells-payload functions size = tells-then (counted (function_name by_bytes)) _ (tells-counted (function_name by_bytes) tells-function_name) λ es. tells-give _
  tells-payload strings size = tells-then (counted string_layout) _ (tells-counted string_layout tells-string_layout) λ es. tells-give _
  tells-payload files size = tells-then (counted (source_file by_bytes)) _ (tells-counted (source_file by_bytes) tells-source_file) λ es. tells-give _
  tells-payload enumerations size = tells-then (counted (enumeration by_bytes)) _ (tells-counted (enumeration by_bytes) tells-enumeration) λ es. tells-give _
  tells-payload unknown size = tells-then (bytes size) _ (tells-bytes size) λ b. tells-give _

  tells-tables : (rows : List Row) (t : Tables (List ℕ)) → Tells (tables_of by_bytes rows t)
  unfolding payload_of
  tells-tables [] t = tells-give t
  tells-tables (row ∷ rows) t = tells-then (payload_of by_bytes row) _ (tells-payload (kind_of (tag_of row)) (size_of row)) (λ x. tells-tables rows (put x t))

  tells-section : Tells (debug_tables by_bytes)
  unfolding debug_tables rows_of
  tells-section = tells-then (counted (bytes 8)) _ (tells-counted (bytes 8) (tells-bytes 8)) (λ rows. tells-tables rows no_tables)

  pub section-told : Told 0 (debug_tables by_bytes w) (λ k. debug_tables by_bytes (take k w))
  section-told =
      told-as 0 0 (debug_tables by_bytes w) (λ k. seen k 0 (debug_tables by_bytes (take k w))) (λ k. debug_tables by_bytes (take k w)) (omega arith) (λ k l. rw (le-leb 0 k (omega arith)))
      (tells-section 0 (omega arith))

-- The laws of the section's bad place

-- a section that has the place of a start of it
same_start : (w : List ℕ) (e m : ℕ) → e ≤ length w → 0 < m → debug_tables by_bytes (take e w) ≡ fault (bad_text m) → bad_place w ≡ some (e - m)
unfolding bad_place
same_start w e m l z h = by (debug_tables by_bytes w) (section-told w)
  where
    by : (x : Read (Tables (List ℕ))) → Told w 0 x (λ k. debug_tables by_bytes (take k w)) → place_read (length w) x ≡ some (e - m)
    by (fault (refusal n vs)) (d, g) = short-bad (sym (g e l) ∙ h)
    by (fault (bad_text left)) (b, g) = at-end (dec_le (b.at + b.size) e)
      where
        at-end : Dec (b.at + b.size ≤ e) → some (length w - left) ≡ some (e - m)
        at-end (yes i) =
            let s : left - (length w - e) ≡ m = same-bad (sym (g e l ∙ rw (le-leb (b.at + b.size) e i)) ∙ h) in
            ap some (omega arith)
        at-end (no i) = short-bad (sym (g e l ∙ rw (lt-leb (b.at + b.size) e (omega arith))) ∙ h)
    by (got t rest) (to, i, j, d, g) = at-end (dec_le to e)
      where
        at-end : Dec (to ≤ e) → none ≡ some (e - m)
        at-end (yes n) = never {a = t} {t = drop to (take e w)} (sym h ∙ g e l ∙ rw (le-leb to e n))
        at-end (no n) = short-bad (sym (g e l ∙ rw (lt-leb to e (omega arith))) ∙ h)

-- a bad text that reading meets is the first fault
first-fault : (s : List ℕ) (left : ℕ) (b : BadText s (length s - left))
    → ((k : ℕ) → k ≤ length s → debug_tables by_bytes (take k s) ≡ seen s k (b.at + b.size) (fault (bad_text (left - (length s - k))))) → FirstFault s (length s - left)
first-fault s left b g =
    let l = b.bad.lies_whole in
    let i = b.bad.within in
    let e = b.at + b.size in
    let m = left - (length s - e) in
    let c = length-take-le e s l in
    let here : debug_tables by_bytes (take e s) ≡ fault (bad_text m) = g e l ∙ rw (le-leb e e (omega arith)) in
    record {
      text = b;
      first = λ k h. g k (omega arith) ∙ rw (lt-leb e k h);
      whatever-follows = λ t.
          same_start (take e s ++ t) e m (omega (arith, length-append (take e s) t)) (omega arith) (rw (take_at (take e s) t e c) here)
          ∙ ap some (omega arith);
    }

by_cases : (s : List ℕ) (x : Read (Tables (List ℕ))) → debug_tables by_bytes s ≡ x → bad_place s ≡ place_read (length s) x → Told s 0 x (λ k. debug_tables by_bytes (take k s)) → BadPlaces s
by_cases s (fault (refusal n vs)) r e (h, g) = record { has-place = λ p d. absent (sym e ∙ d); reads = λ t rest d. e; else-short = λ f d z. same-fault (sym d ∙ r) ∙ h }
by_cases s (fault (bad_text left)) r e (b, g) =
    record {
      has-place = λ p d. let z : length s - left ≡ p = same_some (sym e ∙ d) in rw z at (first-fault s left b g);
      reads = λ t rest d. never (sym r ∙ d);
      else-short = λ f d z. absent (sym z ∙ e);
    }
by_cases s (got t rest) r e h = record { has-place = λ p d. absent (sym e ∙ d); reads = λ u more d. e; else-short = λ f d z. never (sym d ∙ r) }

pub bad-places : (s : List ℕ) → BadPlaces s
unfolding bad_place
bad-places s = by_cases s (debug_tables by_bytes s) refl refl (section-told s)

-- In a file

pub bad-places-in-files : BadPlacesInFiles
unfolding bad_place_at
bad-places-in-files =
    record {
      over-limit = λ f p h. rw (lt-leb (length f) limit h);
      outside = λ f p i. rw i (by (leb (length f) limit) (bad_place (cut f p)));
      section = λ f p h i. rw (le-leb (length f) limit h, i);
      of-record = λ f r. refl;
    }
  where
    by : (z : Bool) (x : Option ℕ) → cond (z && false) x none ≡ none
    by true x = refl
    by false x = refl

-- Loading

no-debug : (s : List ℕ) (p : ℕ) → bad_place s ≡ some p → debug_of s ≡ none
unfolding bad_place debug_of
no-debug s p e = by (debug_tables by_bytes s) e
  where
    by : (x : Read (Tables (List ℕ))) → place_read (length s) x ≡ some p → readable x ≡ none
    by (fault f) e = refl
    by (got t rest) e = absent e

in-file : (f : List ℕ) (q : Place) (p : ℕ) → bad_place_at f q ≡ some p → bad_place (cut f q) ≡ some p
unfolding bad_place_at
in-file f q p e = by (leb (length f) limit && is_inside f q) e
  where
    by : (z : Bool) → cond z (bad_place (cut f q)) none ≡ some p → bad_place (cut f q) ≡ some p
    by true e = e
    by false e = absent e

module _ (hash : List ℕ → List ℕ) (f : List ℕ) (h : Header) where
  found_none : (p : ℕ) → bad_place_at f h.directory.debug ≡ some p → debug_found hash f h ≡ none
  unfolding debug_found
  found_none p e = rw (no-debug (cut f h.directory.debug) p (in-file f h.directory.debug p e)) (by (debug_sized h && debug_inside f h && debug_hash_right hash f h))
    where
      by : (z : Bool) → ◌≡◌ {A = Option (Tables (List ℕ))} (cond z none none) none
      by true = refl
      by false = refl

  -- a section that size, place and hash admit and that does not read
  pub record UnreadableAt (e : Fault) : Type 0 where
    pub inside : bad_place_at f h.directory.debug ≡ bad_place (cut f h.directory.debug)
    pub place : bad_place (cut f h.directory.debug) ≡ place_of (length (cut f h.directory.debug)) e
    pub size : length (cut f h.directory.debug) ≡ h.directory.debug.size

  pub unreadable-at : (e : Fault) → length f ≤ limit → debug_state hash f h ≡ unreadable e → UnreadableAt e
  unfolding debug_state bad_place_at bad_place
  unreadable-at e l d = by (debug_sized h) (debug_inside f h) (debug_hash_right hash f h) (debug_tables by_bytes (cut f h.directory.debug)) refl refl d
    where
      by : (a b c : Bool) (x : Read (Tables (List ℕ))) → is_inside f h.directory.debug ≡ b → debug_tables by_bytes (cut f h.directory.debug) ≡ x
          → cond (not a) empty (cond (not b) outside (cond (not c) hash_differs (state_of_read x))) ≡ unreadable e → UnreadableAt e
      by true true true (fault d) i r s = let z : d ≡ e = cc in record { inside = rw (le-leb (length f) limit l, i); place = rw (r, z); size = length_cut f h.directory.debug i }
      by true true true (got t rest) i r s = absurd (let z : ◌≡◌ {A = ℕ} 0 1 = cc in omega arith)
      by true true false x i r s = absurd (let z : ◌≡◌ {A = ℕ} 0 1 = cc in omega arith)
      by true false c x i r s = absurd (let z : ◌≡◌ {A = ℕ} 0 1 = cc in omega arith)
      by false b c x i r s = absurd (let z : ◌≡◌ {A = ℕ} 0 1 = cc in omega arith)

  state-place : (e : Fault) → length f ≤ limit → debug_state hash f h ≡ unreadable e → bad_place_at f h.directory.debug ≡ place_of h.directory.debug.size e
  state-place e l d = let u = unreadable-at e l d in u.inside ∙ u.place ∙ ap (λ n. place_of n e) u.size

pub still-none : (hash : List ℕ → List ℕ) → StillNone hash
still-none hash = record { debug-none = λ f l p e d. sym (facts hash f l e).debug ∙ found_none hash f l.header p d; state-place = state-place hash }
