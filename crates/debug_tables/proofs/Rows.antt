-- The rows and their payloads, one after another.
use mathlib.Core.Logic.{◌⊎◌, inl, inr}
use mathlib.Core.Path.{◌≡◌, refl, sym, ap, ◌∙◌}
use mathlib.Core.List.{List, [], ◌∷◌}
use Prim.Native.Nat.{ℕ, zero, suc, ◌+◌, ◌*◌, ◌-◌, ◌/◌, ◌≤◌, ◌<◌}
use native.Mathlib.Nat.{sub-zero}
use native.Mathlib.Numerals.{add-one}
use native.Mathlib.Omega.{arith}
use lib.ListN.{length, get_or, take, drop, length-drop}
use lib.Seq.{drop-cons, drop-drop, length-take-le, take-take}
use denote.Ref.{Bor}
use Rattle.std.specs.Prelude.{Option as Maybe, Some, None, MatchOption}
use Rattle.std.specs.List.{slice_range}
use Rattle.std.specs.Simd.{first_chunks}
use Rattle.reading.specs.Fault.{Fault, short_input}
use Rattle.reading.specs.Numbers.{le, le_at}
use Rattle.reading.specs.Reader.{Read, fault, got, next, many, bytes}
use Rattle.reading.specs.Answer.{refused, item_of}
use Rattle.reading.specs.Places.{stops, item, step_at}
use Rattle.reading.specs.declared.Table.{Table}
use Rattle.reading.proofs.Given.{reads_at}
use Rattle.reading.proofs.Reading.{bytes-at, number_at, number_short}
use Rattle.reading.proofs.Width.{fixed-bytes, fixed-many}
use Rattle.format.specs.Debug.{Row, tag_of, size_of, Kind, kind_of, rows_of}
use Rattle.line_map.proofs.Entries.{length-first_chunks}
use Rattle.debug_tables.specs.Rows.{RowsRead}
use Rattle.debug_tables.specs.Starts.{no_starts, payload_start, put_as, debug_starts_of, debug_starts}
use Rattle.debug_tables.proofs.Payloads.{stays-start}
use Rattle.debug_tables.specs.SixTags.{DebugTables}

module _ (s : List ℕ) where
  -- a section that is too short for its count or its rows
  pub no-count : length s < 2 → rows_of s ≡ fault short_input
  unfolding rows_of
  no-count h = rw (number_short 2 s h)

  few-rows : (n : ℕ) → 2 ≤ length s → n ≡ le_at 2 s 0 → length s < 2 + 8 * n → rows_of s ≡ fault short_input
  unfolding rows_of
  few-rows n h e l = let d = length-drop 2 s in rw (number_at 2 s 0 2 refl h, ← e, (fixed-many n (fixed-bytes 8)).short (drop 2 s) (omega arith))

  pub read_short : rows_of s ≡ fault short_input → refused short_input ≡ item_of (debug_starts s)
  unfolding debug_starts
  read_short h = rw h

  -- the rows stand one behind the other
  rows-many : (n m p : ℕ) → n ≤ m → p + 8 * n ≤ length s → many n (bytes 8) (drop p s) ≡ got (take n (first_chunks 8 m (drop p s))) (drop (p + 8 * n) s)
  rows-many zero m p g h = let z : p ≡ p + 8 * 0 = omega arith in ap (λ (k : ℕ). got [] (drop k s)) z
  rows-many (suc n) zero p g h = absurd (omega arith)
  rows-many (suc n) (suc m) p g h =
      let z : p + 8 + 8 * n ≡ p + 8 * suc n = omega arith in
      rw (bytes-at 8 s p (p + 8) refl (omega arith), drop-drop 8 p s, rows-many n m (p + 8) (omega arith) (omega arith), z)

  rows-read : (n m : ℕ) → n ≤ m → n < 65536 → 2 + 8 * n ≤ length s → n ≡ le_at 2 s 0 → RowsRead s (take n (first_chunks 8 m (drop 2 s)))
  unfolding rows_of
  rows-read n m g f h e =
      let l : length (take n (first_chunks 8 m (drop 2 s))) ≡ n = length-take-le n _ (rw length-first_chunks g) in
      record { whole = omega arith; few = omega arith; reads = rw (l, number_at 2 s 0 2 refl (omega arith), ← e, rows-many n m 2 g h) }

  -- the rows that `get` answers, of a count and what stands behind it
  module _ (count rest : List ℕ) (rows : List Row) (n : ℕ) (h : 2 ≤ length s) (c : count ≡ take 2 s) (d : rest ≡ drop 2 s) (r : rows ≡ first_chunks 8 (length rest / 8) rest) (e : n ≡ le_at 2 count 0) where
    counted-by : n ≡ le_at 2 s 0
    counted-by = rw c at e ∙ ap le (take-take 2 2 s (omega arith))

    too-few : length rows < n → rows_of s ≡ fault short_input
    too-few l =
        let k = length-drop 2 s in
        let m = rw r at l in
        few-rows n h counted-by (omega (arith, rw length-first_chunks at m, ap length d))

    all-read : (x : List Row) → n < 65536 → n ≤ length rows → x ≡ take n rows → RowsRead s x
    all-read x f l z =
        let k = length-drop 2 s in
        let m = rw length-first_chunks at (rw r at l) in
        rw (z, r, d) (rows-read n _ (rw d at m) f (omega (arith, ap length d)) counted-by)

    pub rows-got : (o : Maybe (Bor (List Row))) → n < 65536
        → MatchOption o ((n < 0) ⊎ (length rows < n)) (λ x. (0 ≤ n) × (n ≤ length rows) × (x.now ≡ slice_range rows 0 n) × (length x.now + 0 ≡ n))
        → MatchOption o (rows_of s ≡ fault short_input) (λ x. RowsRead s x.now)
    rows-got None f (inl l) = absurd (omega arith)
    rows-got None f (inr l) = too-few l
    rows-got (Some x) f l = all-read x.now f l.1 (l.2 ∙ ap (λ (k : ℕ). take k rows) (sub-zero n))

  -- `i` rows are done, and their payloads up to `p`: the tables so far
  pub record RowsDone (rows : List Row) (p i : ℕ) (u : DebugTables) : Type 0 where
    pub within : p ≤ length s
    pub same : debug_starts s ≡ debug_starts_of (length s) (drop i rows) u (drop p s)

  pub none_done : (rows : List Row) → RowsRead s rows → RowsDone rows (2 + 8 * length rows) 0 no_starts
  unfolding debug_starts
  none_done rows r = record { within = r.whole; same = rw r.reads }

  -- a turn: the row at hand is read by its tag and size
  module _ (rows : List Row) (p i : ℕ) (u : DebugTables) (g : RowsDone rows p i u) (h : i < length rows)
      (tag size : ℕ) (tagged : tag ≡ le_at 2 (get_or rows i []) 0) (sized : size ≡ le_at 4 (get_or rows i []) 4) (k : Kind) (kind : k ≡ kind_of tag) where
    row : Row
    row = get_or rows i []

    row-kind : kind_of (tag_of row) ≡ k
    unfolding row tag_of
    row-kind = rw (kind, tagged)

    row-size : size_of row ≡ size
    unfolding row size_of
    row-size = sym sized

    front : drop i rows ≡ row ∷ drop (i + 1) rows
    unfolding row
    front = rw add-one (drop-cons rows i [] h)

    section-is : debug_starts s ≡ next (payload_start k size p (drop p s)) (λ t. debug_starts_of (length s) (drop (i + 1) rows) (put_as k t u))
    section-is =
        let within = g.within in
        let d = length-drop p s in
        let z : length s - length (drop p s) ≡ p = omega arith in
        g.same
        ∙ ap (λ (rows : List Row). debug_starts_of (length s) rows u (drop p s)) front
        ∙ ap (λ (x : ℕ). next (payload_start (kind_of (tag_of row)) (size_of row) x (drop p s)) (λ t. debug_starts_of (length s) (drop (i + 1) rows) (put_as (kind_of (tag_of row)) t u))) z
        ∙ ap (λ (j : Kind). next (payload_start j (size_of row) p (drop p s)) (λ t. debug_starts_of (length s) (drop (i + 1) rows) (put_as j t u))) row-kind
        ∙ ap (λ (n : ℕ). next (payload_start k n p (drop p s)) (λ t. debug_starts_of (length s) (drop (i + 1) rows) (put_as k t u))) row-size

    pub row_stops : (f : Fault) → stops f ≡ step_at (payload_start k size p) s p → refused f ≡ item_of (debug_starts s)
    row_stops f e =
        sym (ap item_of (section-is ∙ ap (λ (x : Read Table). next x (λ t. debug_starts_of (length s) (drop (i + 1) rows) (put_as k t u))) (reads_at (stays-start s k size p) p e)))

    pub row_done : (t : Table) (m : ℕ) → item t m ≡ step_at (payload_start k size p) s p → RowsDone rows m (i + 1) (put_as k t u)
    row_done t m e =
        let q = reads_at (stays-start s k size p) p e in
        record {
          within = q.0;
          same = section-is ∙ ap (λ (x : Read Table). next x (λ y. debug_starts_of (length s) (drop (i + 1) rows) (put_as k y u))) q.1;
        }
