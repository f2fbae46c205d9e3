-- The tables in force stand where `debug_starts` says, and it gives their places exactly if the section reads.
use mathlib.Core.Path.{◌≡◌, refl, sym, ap, subst}
use mathlib.Core.List.{List, [], ◌∷◌}
use Prim.Native.Nat.{ℕ, ◌+◌, ◌-◌, ◌≤◌}
use native.Mathlib.Omega.{arith}
use lib.ListN.{length, drop, length-drop, length-map}
use Rattle.reading.specs.Fault.{Fault}
use Rattle.reading.specs.Reader.{Read, fault, got, Reader, next, give, counted}
use Rattle.reading.specs.Answer.{refused, found, item_of}
use Rattle.reading.specs.Places.{Holds}
use Rattle.reading.proofs.Reading.{both}
use Rattle.reading.proofs.Left.{LeftOf, left-all, left-taken}
use Rattle.reading.proofs.Local.{local_counted, local-bytes}
use Rattle.reading.proofs.Tables.{counted-stands}
use Rattle.format.specs.Parts.{Keep}
use Rattle.format.specs.Debug.{line, variable, function_name, string_layout, source_file, enumeration, Tables, no_tables, put, Row, tag_of, size_of, payload_of, tables_of, rows_of, debug_tables}
use Rattle.format.specs.Debug.{Kind, lines, variables, functions, strings, files, enumerations, unknown, kind_of, payload}
use Rattle.format.specs.Debug.{Payload, of_lines, of_variables, of_functions, of_strings, of_files, of_enumerations, skipped}
use Rattle.format.proofs.Answers as answers
use Rattle.format.proofs.Keeping.{on_payload, Alike, stops, gives, same_row}
use Rattle.debug_tables.specs.Starts.{nowhere, no_starts, behind_count, entries_at, aside, put_as, debug_starts_of, debug_starts}
use Rattle.debug_tables.specs.Laws.{Standing, DebugReadable}
use Rattle.debug_tables.specs.SixTags.{DebugTables}
use Rattle.debug_entries.proofs.Places.{none_kept}

module _ {T : Type 0} (keep : Keep T) (s : List ℕ) where
  holds-none : {A : Type 0} (r : Reader A) → Holds r s nowhere []
  holds-none r = record { within = omega arith; rest = s; reads = refl }

  none-stand : Standing keep s no_starts no_tables
  none-stand =
      record {
        lines = holds-none line;
        variables = holds-none (variable keep);
        functions = holds-none (function_name keep);
        strings = holds-none string_layout;
        files = holds-none (source_file keep);
        enumerations = holds-none (enumeration keep);
      }

  -- the table in a payload at `at`
  holds-in : {A : Type 0} (r : Reader A) (make : List A → Payload T) (at : ℕ) (x : Payload T) (y : List ℕ) → at ≤ length s
      → next (counted r (drop at s)) (λ es. give (make es)) ≡ got x y → (es : List A) × (make es ≡ x) × Holds r s (record { at = at + 2; count = length es }) es
  holds-in r make at x y h e =
      let b = both (counted r (drop at s)) e in
      (b.item, cc, counted-stands r s at b.item b.middle h b.first)

  -- where its entries stand does not depend on what is kept of names and paths
  entries-aside : (at : ℕ) (x : Payload T) → entries_at at (on_payload none_kept x) ≡ entries_at at x
  entries-aside at (of_lines es) = refl
  entries-aside at (of_variables es) = ap (behind_count at) (length-map es _)
  entries-aside at (of_functions es) = ap (behind_count at) (length-map es _)
  entries-aside at (of_strings es) = refl
  entries-aside at (of_files es) = ap (behind_count at) (length-map es _)
  entries-aside at (of_enumerations es) = ap (behind_count at) (length-map es _)
  entries-aside at skipped = refl

  module _ (u : DebugTables) (t : Tables T) (at : ℕ) (g : Standing keep s u t) (within : at ≤ length s) where
    abbrev Put : Kind → Payload T → Type 0
    Put k x = Standing keep s (put_as k (entries_at at x) u) (put x t)

    put-stand : (k : Kind) (size : ℕ) (x : Payload T) (y : List ℕ) → payload keep k size (drop at s) ≡ got x y → Put k x
    put-stand lines size x y e =
        let h = holds-in line of_lines at x y within e in
        subst (Put lines) h.1 (record { lines = h.2; variables = g.variables; functions = g.functions; strings = g.strings; files = g.files; enumerations = g.enumerations })
    put-stand variables size x y e =
        let h = holds-in (variable keep) of_variables at x y within e in
        subst (Put variables) h.1 (record { lines = g.lines; variables = h.2; functions = g.functions; strings = g.strings; files = g.files; enumerations = g.enumerations })
    put-stand functions size x y e =
        let h = holds-in (function_name keep) of_functions at x y within e in
        subst (Put functions) h.1 (record { lines = g.lines; variables = g.variables; functions = h.2; strings = g.strings; files = g.files; enumerations = g.enumerations })
    put-stand strings size x y e =
        let h = holds-in string_layout of_strings at x y within e in
        subst (Put strings) h.1 (record { lines = g.lines; variables = g.variables; functions = g.functions; strings = h.2; files = g.files; enumerations = g.enumerations })
    put-stand files size x y e =
        let h = holds-in (source_file keep) of_files at x y within e in
        subst (Put files) h.1 (record { lines = g.lines; variables = g.variables; functions = g.functions; strings = g.strings; files = h.2; enumerations = g.enumerations })
    put-stand enumerations size x y e =
        let h = holds-in (enumeration keep) of_enumerations at x y within e in
        subst (Put enumerations) h.1 (record { lines = g.lines; variables = g.variables; functions = g.functions; strings = g.strings; files = g.files; enumerations = h.2 })
    put-stand unknown size x y e = let z : skipped ≡ x = cc (both (Rattle.reading.specs.Reader.bytes size (drop at s)) e).second in subst (Put unknown) z g

  -- both read alike: they stop with the same fault, or give tables and the places where these stand
  data Agree : Read DebugTables → Read (Tables T) → Type 0 where
    stop : (f : Fault) → Agree (fault f) (fault f)
    stand : (u : DebugTables) (t : Tables T) (rest : List ℕ) → Standing keep s u t → Agree (got u rest) (got t rest)

  agree : (rows : List Row) (u : DebugTables) (t : Tables T) (x : List ℕ) → LeftOf s x → Standing keep s u t → Agree (debug_starts_of (length s) rows u x) (tables_of keep rows t x)
  unfolding payload_of
  agree [] u t x w g = stand u t x g
  agree (row ∷ rows) u t x w g =
      rw w.is (go (agree rows) (payload_of keep row (drop w.behind s)) refl (same_row s aside keep none_kept (λ k n h. refl) row (drop w.behind s) (record { behind = w.behind; most = w.most; is = refl })))
    where
      go : ((u : DebugTables) (t : Tables T) (x : List ℕ) → LeftOf s x → Standing keep s u t → Agree (debug_starts_of (length s) rows u x) (tables_of keep rows t x))
          → (y : Read (Payload T)) {z : Read (Payload (Unit {0}))} → payload_of keep row (drop w.behind s) ≡ y → Alike s (on_payload {U = T} none_kept) z y
          → Agree
          (next (next z (λ p. give (entries_at (length s - length (drop w.behind s)) p))) (λ e. debug_starts_of (length s) rows (put_as (kind_of (tag_of row)) e u)))
          (next y (λ b. tables_of keep rows (put b t)))
      go rec y e (stops f) = stop f
      go rec y e (gives b m v) =
          let d = length-drop w.behind s in
          let l = w.most in
          let k : length s - length (drop w.behind s) ≡ w.behind = omega arith in
          rw (k, entries-aside w.behind b) (rec (put_as (kind_of (tag_of row)) (entries_at w.behind b) u) (put b t) m v (put-stand u t w.behind g l (kind_of (tag_of row)) (size_of row) b m e))

  starts-agree : Agree (debug_starts s) (debug_tables keep s)
  unfolding debug_starts debug_tables rows_of
  starts-agree = go (rows_of s) refl
    where
      go : (y : Read (List Row)) → rows_of s ≡ y → Agree (next y (λ rows. debug_starts_of (length s) rows no_starts)) (next y (λ rows. tables_of keep rows no_tables))
      go (fault f) e = stop f
      go (got rows x) e = agree rows no_starts no_tables x (left-taken s s rows x (left-all s) ((local_counted (local-bytes 8)).taken s rows x e)) none-stand

  pub unreadable : (f : Fault) → item_of (debug_starts s) ≡ refused f → item_of (debug_tables keep s) ≡ refused f
  unreadable f e = go starts-agree e
    where
      go : {x : Read DebugTables} {y : Read (Tables T)} → Agree x y → item_of x ≡ refused f → item_of y ≡ refused f
      go (stop d) e = cc
      go (stand u t rest g) e = answers.never (sym e)

  pub readable : (u : DebugTables) → item_of (debug_starts s) ≡ found u → DebugReadable keep s u
  readable u e = go (debug_tables keep s) starts-agree refl e
    where
      go : {x : Read DebugTables} (y : Read (Tables T)) → Agree x y → debug_tables keep s ≡ y → item_of x ≡ found u → DebugReadable keep s u
      go y (stop d) r e = answers.never e
      go y (stand v t rest g) r e =
          let z : v ≡ u = answers.same-found e in
          record { tables = t; reads = ap item_of r; stand = subst (λ (w : DebugTables). Standing keep s w t) z g }
