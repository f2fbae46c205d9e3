-- Of a list of bytes, the counts of the tables in force have two bytes each. So the laws hold.
use mathlib.Core.Path.{◌≡◌, refl, sym, ap, subst, ◌∙◌}
use mathlib.Core.Bool.{Bool, true, false}
use mathlib.Core.List.{List, [], ◌∷◌}
use Prim.Native.Nat.{ℕ, ◌-◌, ◌<◌}
use native.Mathlib.Omega.{arith}
use lib.ListN.{length}
use Rattle.reading.specs.Reader.{Read, got, u16, bytes}
use Rattle.reading.specs.Answer.{found, item_of}
use Rattle.reading.specs.declared.Table.{Table}
use Rattle.reading.proofs.Le.{Bytes, bytes_drop}
use Rattle.reading.proofs.Reading.{never, both, number_fits}
use Rattle.reading.proofs.Left.{LeftOf, left-all, left-taken}
use Rattle.reading.proofs.Local.{local_counted, local-bytes}
use Rattle.format.specs.Debug.{Row, tag_of, size_of, kind_of, payload, payload_of, rows_of}
use Rattle.format.specs.Debug.{Kind, lines, variables, functions, strings, files, enumerations, unknown}
use Rattle.format.proofs.Answers.{item-got}
use Rattle.format.proofs.Keeping.{Alike, stops, gives, same_row}
use Rattle.debug_text.specs.Answers.{keep_in}
use Rattle.debug_tables.specs.Starts.{nowhere, no_starts, entries_at, aside, payload_start, put_as, debug_starts_of, debug_starts, is_listed, entries_of}
use Rattle.debug_tables.specs.Laws.{TwoByteCounts, Laws}
use Rattle.debug_tables.specs.SixTags.{DebugTables}
use Rattle.debug_tables.proofs.Payloads.{start-listed, stand-listed, other-as}
use Rattle.debug_tables.proofs.BadPlaces.{placed}
use Rattle.debug_tables.proofs.Standing as standing

none-few : TwoByteCounts no_starts
none-few = record { lines = omega arith; variables = omega arith; functions = omega arith; strings = omega arith; files = omega arith; enumerations = omega arith }

put-few : (k : Kind) (t : Table) (u : DebugTables) → t.count < 65536 → TwoByteCounts u → TwoByteCounts (put_as k t u)
put-few lines t u h s = record { lines = h; variables = s.variables; functions = s.functions; strings = s.strings; files = s.files; enumerations = s.enumerations }
put-few variables t u h s = record { lines = s.lines; variables = h; functions = s.functions; strings = s.strings; files = s.files; enumerations = s.enumerations }
put-few functions t u h s = record { lines = s.lines; variables = s.variables; functions = h; strings = s.strings; files = s.files; enumerations = s.enumerations }
put-few strings t u h s = record { lines = s.lines; variables = s.variables; functions = s.functions; strings = h; files = s.files; enumerations = s.enumerations }
put-few files t u h s = record { lines = s.lines; variables = s.variables; functions = s.functions; strings = s.strings; files = h; enumerations = s.enumerations }
put-few enumerations t u h s = record { lines = s.lines; variables = s.variables; functions = s.functions; strings = s.strings; files = s.files; enumerations = h }
put-few unknown t u h s = s

-- the count of a payload
count-few : (k : Kind) (size at : ℕ) (x : List ℕ) (t : Table) (y : List ℕ) → Bytes x → payload_start k size at x ≡ got t y → t.count < 65536
count-few k size at x t y b e = go (is_listed k) refl
  where
    go : (z : Bool) → is_listed k ≡ z → t.count < 65536
    go true h =
        let p = both (u16 x) (sym (start-listed k size at x h) ∙ e) in
        let q = both (entries_of k p.item p.middle) p.second in
        let m = stand-listed k at p.item p.middle q.item q.middle h q.first in
        let z : entries_at at q.item ≡ t = cc q.second in
        omega (arith, ap (λ (v : Table). v.count) (sym z ∙ m), number_fits 2 x p.item p.middle b p.first)
    go false h =
        let p = both (payload aside unknown size x) (subst (λ (v : Kind). payload_start v size at x ≡ got t y) (other-as k h) e) in
        let q = both (bytes size x) p.first in
        let z : nowhere ≡ t = cc (p.second, q.second) in
        omega (arith, ap (λ (v : Table). v.count) z)

-- what a payload leaves of the section is left of it
alike-left : {A B : Type 0} (s : List ℕ) (m : B → A) {x : Read A} {y : Read B} (b : B) (t : List ℕ) → Alike s m x y → y ≡ got b t → LeftOf s t
alike-left s m b t (stops d) e = never e
alike-left s m b t (gives c u w) e = let z : u ≡ t = cc in subst (LeftOf s) z w

start_left : (s : List ℕ) (row : Row) (at : ℕ) (x : List ℕ) (t : Table) (y : List ℕ) → LeftOf s x → payload_start (kind_of (tag_of row)) (size_of row) at x ≡ got t y → LeftOf s y
unfolding payload_of
start_left s row at x t y w e =
    let p = both (payload_of aside row x) e in
    let l = alike-left s _ p.item p.middle (same_row s aside aside (λ b. b) (λ k n i. refl) row x w) p.first in
    let z : p.middle ≡ y = cc p.second in
    subst (LeftOf s) z l

module _ (s : List ℕ) (b : Bytes s) where
  rows_few : (rows : List Row) (u : DebugTables) (x : List ℕ) (v : DebugTables) (rest : List ℕ) → LeftOf s x → TwoByteCounts u → debug_starts_of (length s) rows u x ≡ got v rest → TwoByteCounts v
  rows_few [] u x v rest w h e = let z : u ≡ v = cc in subst TwoByteCounts z h
  rows_few (row ∷ rows) u x v rest w h e =
      let k = kind_of (tag_of row) in
      let p = both (payload_start k (size_of row) (length s - length x) x) e in
      let c : Bytes x = subst Bytes (sym w.is) (bytes_drop s w.behind b) in
      let n = count-few k (size_of row) (length s - length x) x p.item p.middle c p.first in
      rows_few rows (put_as k p.item u) p.middle v rest (start_left s row (length s - length x) x p.item p.middle w p.first) (put-few k p.item u n h) p.second

  pub few : (u : DebugTables) → item_of (debug_starts s) ≡ found u → TwoByteCounts u
  unfolding debug_starts rows_of
  few u e =
      let g = item-got (debug_starts s) u e in
      let p = both (rows_of s) g.1 in
      rows_few p.item no_starts p.middle u g.0 (left-taken s s p.item p.middle (left-all s) ((local_counted (local-bytes 8)).taken s p.item p.middle p.first)) none-few p.second

pub laws : Laws
laws =
    record {
      placed = placed;
      unreadable = λ base s f e. standing.unreadable (keep_in base s) s f e;
      readable = λ base s u e. standing.readable (keep_in base s) s u e;
      few = λ s u b e. few s b u e;
    }
