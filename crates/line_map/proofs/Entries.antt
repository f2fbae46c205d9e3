-- An entry of the map at a place, and answers within the map by what its first entry is.
use mathlib.Core.Logic.{◌⊎◌, inl, inr}
use mathlib.Core.Path.{◌≡◌, refl, sym, ap, ◌∙◌}
use mathlib.Core.List.{List, [], ◌∷◌}
use Prim.Native.Nat.{ℕ, zero, suc, ◌+◌, ◌*◌, ◌-◌, ◌/◌, ◌≤◌, ◌<◌, min}
use native.Mathlib.Nat.{add-zero, sub-zero}
use native.Mathlib.Omega.{arith}
use lib.ListN.{length, take, drop, length-drop, get_or}
use lib.Seq.{drop-drop, take_all}
use denote.Ref.{Bor}
use Rattle.std.specs.Prelude.{Option as Maybe, Some, None, MatchOption, ok_or}
use Rattle.std.specs.List.{slice_range}
use Rattle.std.specs.Simd.{first_chunks}
use Rattle.std.proofs.lemmas.List.{drop_min}
use Rattle.reading.specs.Fault.{short_input}
use Rattle.reading.specs.Numbers.{le, le_at}
use Rattle.reading.specs.Reader.{fault, got, many}
use Rattle.reading.specs.Answer.{Got, refused, found, ◌>>=◌, item_of, indexed}
use Rattle.reading.specs.Places.{stops, item, step_at}
use Rattle.reading.proofs.Parts.{part-of-part}
use Rattle.reading.proofs.Reading.{number_at}
use Rattle.reading.proofs.Width.{fixed-many}
use Rattle.format.specs.Faults.{no_entry}
use Rattle.format.specs.Debug.{Line, line}
use Rattle.format.proofs.Widths.{line-fixed}
use Rattle.base.specs.Answers.{got_from}
use Rattle.base.proofs.Entries.{read_short, read_ok}
use Rattle.base.specs.declared.error.ContainerError.TheVariants as error
use Rattle.line_map.specs.Lookups.{line_map_entry_size, in_lines}
use Rattle.line_map.specs.Map.{line_of, lines_of, lines_at}

pub line-at : (s : List ℕ) (at : ℕ) → at + line_map_entry_size ≤ length s → line (drop at s)
    ≡ got (record { function = le_at 2 s at; offset = le_at 2 s (at + 2); file = le_at 2 s (at + 4); line = le_at 2 s (at + 6); column = le_at 2 s (at + 8) }) (drop (at + line_map_entry_size) s)
unfolding line
line-at s at h =
    rw (
      number_at 2 s at (at + 2) refl (omega arith),
      number_at 2 s (at + 2) (at + 4) (omega arith) (omega arith),
      number_at 2 s (at + 4) (at + 6) (omega arith) (omega arith),
      number_at 2 s (at + 6) (at + 8) (omega arith) (omega arith),
      number_at 2 s (at + 8) (at + line_map_entry_size) (omega arith) h,
    )

module _ (s : List ℕ) (at n : ℕ) where
  -- the map, by whether the section holds it
  pub lines-read : line_map_entry_size * n ≤ length s - at → (es : List Line) × (many n line (drop at s) ≡ got es (drop (at + line_map_entry_size * n) s))
  lines-read h =
      let d = length-drop at s in
      let k = (fixed-many n line-fixed).whole (drop at s) (omega arith) in
      (k.0, k.1 ∙ ap (got k.0) (drop-drop (line_map_entry_size * n) at s))

  pub lines-short : length s - at < line_map_entry_size * n → many n line (drop at s) ≡ fault short_input
  lines-short h = let d = length-drop at s in (fixed-many n line-fixed).short (drop at s) (omega arith)

-- the map by the bytes of its entries

pub length-first_chunks : (n k : ℕ) (x : List ℕ) → length (first_chunks n k x) ≡ k
length-first_chunks n zero x = refl
length-first_chunks n (suc k) x = ap suc (length-first_chunks n k (drop n x))

module _ (s : List ℕ) where
  -- from a place on, or from the end if it lies behind that
  clip : (at p : ℕ) → p ≡ min at (length s) → take (length s - p) (drop p s) ≡ drop at s
  clip at p e = take_all (length s - p) (drop p s) (omega (arith, length-drop p s)) ∙ rw e (drop_min at s)

  line-there : (p : ℕ) → p + line_map_entry_size ≤ length s → line (drop p s) ≡ got (line_of (take line_map_entry_size (drop p s))) (drop (p + line_map_entry_size) s)
  line-there p h =
      let at = λ (k : ℕ) (l : k + 2 ≤ 10). ap le (part-of-part s p 10 k 2 l) in
      line-at s p h ∙ rw (at 0 (omega arith), at 2 (omega arith), at 4 (omega arith), at 6 (omega arith), at 8 (omega arith), add-zero p)

  -- the entry at a place, by what `first_chunk` answers
  module _ (at p : ℕ) (e : p ≡ min at (length s)) where
    left : length (take (length s - p) (drop p s)) ≡ length s - at
    left = ap length (clip at p e) ∙ length-drop at s

    pub line-out : length (take (length s - p) (drop p s)) < line_map_entry_size → stops short_input ≡ step_at line s at
    line-out h = read_short line s line-fixed.short at (omega (arith, left))

    pub line-in : (row : List ℕ) {l : Line} → line_map_entry_size ≤ length (take (length s - p) (drop p s)) → row ≡ take line_map_entry_size (take (length s - p) (drop p s)) → l ≡ line_of row
        → item l (at + line_map_entry_size) ≡ step_at line s at
    line-in row h r i =
        rw (i, r, clip at p e) (read_ok line s at _ (at + line_map_entry_size) (omega (arith, left)) (line-there at (omega (arith, left))))

  lines-many : (n m p : ℕ) → n ≤ m → line_map_entry_size * n ≤ length s - p
      → many n line (drop p s) ≡ got (lines_of (take n (first_chunks 10 m (drop p s)))) (drop (p + line_map_entry_size * n) s)
  lines-many zero m p g h = let z : p ≡ p + 10 * 0 = omega arith in ap (λ (k : ℕ). got [] (drop k s)) z
  lines-many (suc n) zero p g h = absurd (omega arith)
  lines-many (suc n) (suc m) p g h =
      let z : p + 10 + 10 * n ≡ p + 10 * suc n = omega arith in
      rw (line-there p (omega arith), drop-drop 10 p s, lines-many n m (p + 10) (omega arith) (omega arith), z)

  -- the rows that `get` answers, of the map's part of the section
  module _ (at p n : ℕ) (rows : List (List ℕ)) (e : p ≡ min at (length s)) (r : rows ≡ first_chunks 10 (length (take (length s - p) (drop p s)) / 10) (take (length s - p) (drop p s))) where
    is : rows ≡ first_chunks 10 ((length s - at) / 10) (drop at s)
    is = rw (clip at p e, length-drop at s) at r

    count : length rows ≡ (length s - at) / 10
    count = ap length is ∙ length-first_chunks 10 _ _

    pub map-got : (o : Maybe (Bor (List (List ℕ))))
        → MatchOption o ((n < 0) ⊎ (length rows < n)) (λ x. (0 ≤ n) × (n ≤ length rows) × (x.now ≡ slice_range rows 0 n) × (length x.now + 0 ≡ n))
        → got_from (λ map. lines_of map.now) (ok_or o error.ShortInput) ≡ lines_at s at n
    map-got None (inl l) = absurd (omega arith)
    map-got None (inr l) = sym (ap item_of (lines-short s at n (omega (arith, count))))
    map-got (Some x) l =
        let z : x.now ≡ take n (first_chunks 10 ((length s - at) / 10) (drop at s)) = l.2 ∙ ap (λ (k : ℕ). take k rows) (sub-zero n) ∙ ap (take n) is in
        rw (z, lines-many n ((length s - at) / 10) at (omega (arith, count)) (omega (arith, count)))

pub in_lines-found : {B : Type 0} (s : List ℕ) (at n : ℕ) (pick : List Line → Got B) (es : List Line) → found es ≡ lines_at s at n → pick es ≡ in_lines s at n pick
in_lines-found s at n pick es e = ap (λ (x : Got (List Line)). x >>= pick) e

pub line-past : (rows : List (List ℕ)) (k : ℕ) → length rows ≤ k → refused no_entry ≡ indexed no_entry (lines_of rows) k
line-past [] k h = refl
line-past (row ∷ rows) zero h = absurd (omega arith)
line-past (row ∷ rows) (suc k) h = line-past rows k (omega arith)

pub line-found : (rows : List (List ℕ)) (k : ℕ) → k < length rows → found (line_of (get_or rows k [])) ≡ indexed no_entry (lines_of rows) k
line-found [] k h = absurd (omega arith)
line-found (row ∷ rows) zero h = refl
line-found (row ∷ rows) (suc k) h = line-found rows k (omega arith)
