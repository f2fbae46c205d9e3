-- Slip 2: the numbers that a record holds of a tag are those of its last row and of the rows in front of it, and the table in force is read from that row.
use Prim.Native.Nat.{ℕ, suc, ◌+◌, ◌≤◌, ◌<◌}
use native.Mathlib.Omega.{arith}
use native.Mathlib.Decide.{dec_le}
use mathlib.Core.Path.{◌≡◌, refl, sym, ap, subst, ◌∙◌, fun_ext}
use mathlib.Core.Bool.{Bool, true, false, cond}
use mathlib.Core.List.{List, [], ◌∷◌, ◌++◌}
use mathlib.Core.Option.{Option, none, some}
use lib.Dec.{eqb}
use lib.ListN.{length, get_or}
use borrow.Author.Tests.{eqb-true, eqb-false, eq-eqb, ne_eqb}
use Rattle.reading.specs.Reader.{Read, fault, got, Reader, next, give, bytes, counted}
use Rattle.reading.specs.Answer.{found, ◌>>=◌}
use Rattle.reading.proofs.Reading.{both, then-then}
use Rattle.format.specs.Parts.{cut, by_bytes}
use Rattle.format.specs.Debug.{line, variable, function_name, string_layout, source_file, enumeration, Row, tag_of, size_of, kind_of, payload, payload_of, Tables, no_tables, put, tables_of, rows_of, debug_tables}
use Rattle.format.specs.Debug.{Kind, lines, variables, functions, strings, files, enumerations, unknown}
use Rattle.format.specs.Debug.{Payload, of_lines, of_variables, of_functions, of_strings, of_files, of_enumerations, skipped}
use Rattle.format.specs.InForce.{InForce, rows_with, last_of, table_row, in_force_by, in_force_in, in_force_with}
use Rattle.format.specs.Load.{Loaded, load, readable, debug_of}
use Rattle.format.specs.Record.{DebugCounts, Container, table_counts, debug_counts, read_from}
use Rattle.format.specs.Lookups.{debug_in}
use Rattle.format.specs.Examples.{mill, mill_more}
use Rattle.format.proofs.Answers.{absent, same-found, same_some, steps}
use Rattle.format.proofs.Loads.{facts, debug-read}
use Rattle.format.proofs.InForce.{number, of-each, listed}
use Rattle.format.proofs.Examples.{second-half-not-vacuous}
use Rattle.requests.specs.RowsInForce.{count_of, LastWith, RowInForce, SixTags, table_as, TableOfRow, TablesOfRows, RowsOfSection, all_absent, LoadedRows, RowsUnread, CountsCovered, RowsShift, only_lines}
use Rattle.requests.proofs.RowsInForceExamples.{in-force-examples, shifted}

-- The rows of a tag

module _ (tag : ℕ) where
  -- a row that is the only one of the tag
  only : (row : Row) (rows : List Row) → eqb (tag_of row) tag ≡ true → count_of tag rows ≡ 0 → LastWith tag (row ∷ rows) 0 0
  only row rows h c =
      record { before = []; row = row; behind = rows; split = refl; number = refl; tagged = eqb-true (tag_of row) tag h; no-later = c; earlier = refl }

  -- one row more in front
  cons : (row : Row) (rows : List Row) (z : Bool) → eqb (tag_of row) tag ≡ z → (j k : ℕ) → LastWith tag rows j k → LastWith tag (row ∷ rows) (suc j) (cond z (suc k) k)
  cons row rows z h j k l =
      record {
        before = row ∷ l.before;
        row = l.row;
        behind = l.behind;
        split = ap (λ (x : List Row). row ∷ x) l.split;
        number = ap suc l.number;
        tagged = l.tagged;
        no-later = l.no-later;
        earlier = rw h (ap (λ (n : ℕ). cond z (suc n) n) l.earlier);
      }

  -- what the list of numbers tells, where the first row has the number `i`: an empty list that no row has the tag, any other its last row
  abbrev Told : ℕ → List Row → List ℕ → Type 0
  Told i rows [] = count_of tag rows ≡ 0
  Told i rows (n ∷ ns) = (j : ℕ) × (LastWith tag rows j (length ns)) × (last_of n ns ≡ i + j) × (0 < count_of tag rows)

  told : (i : ℕ) (rows : List Row) → Told i rows (rows_with tag i rows)
  unfolding rows_with
  told i [] = refl
  told i (row ∷ rows) = go (eqb (tag_of row) tag) refl (rows_with tag (suc i) rows) (told (suc i) rows)
    where
      go : (z : Bool) → eqb (tag_of row) tag ≡ z → (ns : List ℕ) → Told (suc i) rows ns → Told i (row ∷ rows) (cond z (i ∷ ns) ns)
      go true h [] c = (0, only row rows h c, omega arith, rw h (omega arith))
      go true h (n ∷ ns) (j, l, e, c) = (suc j, cons row rows true h j (length ns) l, omega arith, rw h (omega arith))
      go false h [] c = rw h c
      go false h (n ∷ ns) (j, l, e, c) = (suc j, cons row rows false h j (length ns) l, omega arith, rw h c)

  by-numbers : (rows : List Row) (ns : List ℕ) → Told 0 rows ns → RowInForce tag rows (table_row ns)
  by-numbers rows [] c = record { in-force = λ i h. absent h; absent = λ h. (c, refl); no_row = λ h. refl }
  by-numbers rows (n ∷ ns) (j, l, e, c) =
      record {
        in-force = λ i h. let z : last_of n ns ≡ i = same_some h in let y : j ≡ i = omega arith in rw (← y) l;
        absent = λ h. absent (sym h);
        no_row = λ h. absurd (omega arith);
      }

  row-in-force : (rows : List Row) → RowInForce tag rows (table_row (rows_with tag 0 rows))
  row-in-force rows = by-numbers rows (rows_with tag 0 rows) (told 0 rows)

pub six-tags : (rows : List Row) → SixTags rows
six-tags rows =
    record {
      lines = row-in-force 1 rows;
      variables = row-in-force 2 rows;
      functions = row-in-force 3 rows;
      strings = row-in-force 4 rows;
      files = row-in-force 6 rows;
      enumerations = row-in-force 9 rows;
    }

-- Kinds and their tables

-- the kind of a payload
abbrev payload_kind : {T : Type 0} → Payload T → Kind
payload_kind (of_lines es) = lines
payload_kind (of_variables es) = variables
payload_kind (of_functions es) = functions
payload_kind (of_strings es) = strings
payload_kind (of_files es) = files
payload_kind (of_enumerations es) = enumerations
payload_kind skipped = unknown

-- a payload becomes the table of its own kind, and leaves the others as they are
abbrev Puts : {T : Type 0} → Payload T → Tables T → Kind → Type 0
Puts x t k = table_as k (put x t) ≡ cond (eqb (number (payload_kind x)) (number k)) x (table_as k t)

puts : {T : Type 0} (x : Payload T) (t : Tables T) (k : Kind) → Puts x t k
puts (of_lines es) t = of-each (Puts (of_lines es) t) refl refl refl refl refl refl refl
puts (of_variables es) t = of-each (Puts (of_variables es) t) refl refl refl refl refl refl refl
puts (of_functions es) t = of-each (Puts (of_functions es) t) refl refl refl refl refl refl refl
puts (of_strings es) t = of-each (Puts (of_strings es) t) refl refl refl refl refl refl refl
puts (of_files es) t = of-each (Puts (of_files es) t) refl refl refl refl refl refl refl
puts (of_enumerations es) t = of-each (Puts (of_enumerations es) t) refl refl refl refl refl refl refl
puts skipped t = of-each (Puts skipped t) refl refl refl refl refl refl refl

-- what is read as a payload of a kind has that kind
read_as : {A : Type 0} (r : Reader A) (c : A → Payload (List ℕ)) (k : Kind) → ((a : A) → payload_kind (c a) ≡ k)
    → (s : List ℕ) (x : Payload (List ℕ)) (m : List ℕ) → next (r s) (λ a. give (c a)) ≡ got x m → payload_kind x ≡ k
read_as r c k h s x m e = let b = both (r s) e in let y : c b.item ≡ x = cc in rw (← y) (h b.item)

read-kind : (k : Kind) (size : ℕ) (s : List ℕ) (x : Payload (List ℕ)) (m : List ℕ) → payload by_bytes k size s ≡ got x m → payload_kind x ≡ k
read-kind lines size = read_as (counted line) of_lines lines (λ es. refl)
read-kind variables size = read_as (counted (variable by_bytes)) of_variables variables (λ es. refl)
read-kind functions size = read_as (counted (function_name by_bytes)) of_functions functions (λ es. refl)
read-kind strings size = read_as (counted string_layout) of_strings strings (λ es. refl)
read-kind files size = read_as (counted (source_file by_bytes)) of_files files (λ es. refl)
read-kind enumerations size = read_as (counted (enumeration by_bytes)) of_enumerations enumerations (λ es. refl)
read-kind unknown size = read_as (bytes size) (λ b. skipped) unknown (λ b. refl)

-- `unknown` alone has the number 0, and has no table
no_table : {T : Type 0} (t u : Tables T) (k : Kind) → number k ≡ 0 → table_as k t ≡ table_as k u
no_table t u =
    of-each (λ k. number k ≡ 0 → table_as k t ≡ table_as k u) (λ e. absurd (omega arith)) (λ e. absurd (omega arith)) (λ e. absurd (omega arith))
    (λ e. absurd (omega arith)) (λ e. absurd (omega arith)) (λ e. absurd (omega arith)) (λ e. refl)

-- two tags of one listed kind are equal
same_tag : (a b : ℕ) → 0 < number (kind_of b) → number (kind_of a) ≡ number (kind_of b) → a ≡ b
same_tag a b l e = let h = listed a (omega arith) in let g = listed b l in omega arith

-- Reading the payloads of rows

-- a row's payload has the kind of its tag
kind-of-row : (row : Row) (s : List ℕ) (x : Payload (List ℕ)) (m : List ℕ) → payload_of by_bytes row s ≡ got x m → payload_kind x ≡ kind_of (tag_of row)
unfolding payload_of
kind-of-row row = read-kind (kind_of (tag_of row)) (size_of row)

-- the rows in front of others are read first
in-front : (before rows : List Row) (t : Tables (List ℕ)) (s : List ℕ) → tables_of by_bytes (before ++ rows) t s ≡ next (tables_of by_bytes before t s) (tables_of by_bytes rows)
in-front [] rows t s = refl
in-front (row ∷ before) rows t s =
    ap (next (payload_of by_bytes row s)) (fun_ext λ x. fun_ext (in-front before rows (put x t)))
    ∙ sym (then-then (payload_of by_bytes row s) (λ x. tables_of by_bytes before (put x t)) (tables_of by_bytes rows))

module _ (tag : ℕ) where
  -- the payload of a row of the tag is the tag's table
  own-table : (x : Payload (List ℕ)) (t : Tables (List ℕ)) → payload_kind x ≡ kind_of tag → table_as (kind_of tag) (put x t) ≡ x
  own-table x t h = puts x t (kind_of tag) ∙ rw (eq-eqb (number (payload_kind x)) (number (kind_of tag)) (ap number h))

  -- and that of a row of another tag leaves it as it is
  other-table : (other : ℕ) (x : Payload (List ℕ)) (t : Tables (List ℕ)) → payload_kind x ≡ kind_of other → eqb other tag ≡ false
      → table_as (kind_of tag) (put x t) ≡ table_as (kind_of tag) t
  other-table other x t h d = go (dec_le (number (kind_of tag)) 0)
    where
      go : Dec (number (kind_of tag) ≤ 0) → table_as (kind_of tag) (put x t) ≡ table_as (kind_of tag) t
      go (yes l) = no_table (put x t) t (kind_of tag) (omega arith)
      go (no l) =
          puts x t (kind_of tag)
          ∙ rw (ne_eqb (number (payload_kind x)) (number (kind_of tag)) (λ e. eqb-false other tag d (same_tag other tag (omega arith) (sym (ap number h) ∙ e))))

  -- where no row has the tag, the first has another
  none-in-front : (row : Row) (rows : List Row) → count_of tag (row ∷ rows) ≡ 0 → (eqb (tag_of row) tag ≡ false) × (count_of tag rows ≡ 0)
  none-in-front row rows = go (eqb (tag_of row) tag)
    where
      go : (z : Bool) → cond z (suc (count_of tag rows)) (count_of tag rows) ≡ 0 → (z ≡ false) × (count_of tag rows ≡ 0)
      go true c = absurd (omega arith)
      go false c = (refl, c)

  -- reading such rows leaves the table as it is
  untouched : (rows : List Row) (t u : Tables (List ℕ)) (s rest : List ℕ) → count_of tag rows ≡ 0 → tables_of by_bytes rows t s ≡ got u rest
      → table_as (kind_of tag) u ≡ table_as (kind_of tag) t
  untouched [] t u s rest c e = let z : u ≡ t = cc in ap (table_as (kind_of tag)) z
  untouched (row ∷ rows) t u s rest c e =
      let n = none-in-front row rows c in
      let b = both (payload_of by_bytes row s) e in
      untouched rows (put b.item t) u b.middle rest n.1 b.second
      ∙ other-table (tag_of row) b.item t (kind-of-row row s b.item b.middle b.first) n.0

  -- the table in the end is the payload of the tag's last row
  table-of-row : (before : List Row) (row : Row) (behind : List Row) (payloads : List ℕ) (t : Tables (List ℕ)) (rest : List ℕ) → tag_of row ≡ tag → count_of tag behind ≡ 0
      → tables_of by_bytes (before ++ (row ∷ behind)) no_tables payloads ≡ got t rest → TableOfRow tag before row payloads t
  table-of-row before row behind payloads t rest h c e =
      let a = both (tables_of by_bytes before no_tables payloads) (sym (in-front before (row ∷ behind) no_tables payloads) ∙ e) in
      let b = both (payload_of by_bytes row a.middle) a.second in
      let k = kind-of-row row a.middle b.item b.middle b.first ∙ ap kind_of h in
      let z = untouched behind (put b.item a.item) t b.middle rest c b.second ∙ own-table b.item a.item k in
      record { so_far = a.item; start = a.middle; end = b.middle; earlier = a.first; own = b.first ∙ ap (λ x. got x b.middle) (sym z) }

pub tables-of-rows : (rows : List Row) (payloads : List ℕ) (t : Tables (List ℕ)) (rest : List ℕ) → tables_of by_bytes rows no_tables payloads ≡ got t rest
    → TablesOfRows rows payloads t
tables-of-rows rows payloads t rest e =
    record {
      in-force = λ tag i replaced l. table-of-row tag l.before l.row l.behind payloads t rest l.tagged l.no-later (rw l.split at e);
      no_row = λ tag c. untouched tag rows no_tables t payloads rest c e;
    }

-- The loaded record

-- what a section that is readable has read
read-got : {A : Type 0} (x : Read A) (a : A) → readable x ≡ some a → (rest : List ℕ) × (x ≡ got a rest)
read-got (fault f) a e = absent e
read-got (got b rest) a e = (rest, ap (λ y. got y rest) (same_some e))

-- a debug section that reads has read its rows, and then their payloads
rows-of-section : (s : List ℕ) (t : Tables (List ℕ)) → debug_of s ≡ some t → RowsOfSection s (table_counts t) (in_force_in s)
unfolding debug_of debug_tables in_force_in
rows-of-section s t e =
    let a = read-got (debug_tables by_bytes s) t e in
    let b = both (rows_of s) a.1 in
    record { rows = b.item; payloads = b.middle; tables = t; rest = a.0; directory = b.first; reads = b.second; counts = refl; told = ap in_force_by b.first }

module _ (hash : List ℕ → List ℕ) (f : List ℕ) (l : Loaded) (e : load hash f ≡ found l) where
  abbrev section : List ℕ
  section = cut f l.header.directory.debug

  -- the rows told are those of the tables that were loaded
  told_of : in_force_with section l.debug ≡ l.in_force
  told_of = ap (in_force_with section) (sym (facts hash f l e).debug) ∙ (facts hash f l e).in-force

  with-debug : (c : DebugCounts) → debug_counts l.debug ≡ some c → RowsOfSection section c l.in_force
  with-debug c d = go l.debug refl d
    where
      go : (x : Option (Tables (List ℕ))) → l.debug ≡ x → debug_counts x ≡ some c → RowsOfSection section c l.in_force
      go none q d = absent d
      go (some t) q d =
          let z : table_counts t ≡ c = same_some d in
          rw (← z, ← told_of, q) (rows-of-section section t (debug-read hash f l.header t ((facts hash f l e).debug ∙ q)).1)

  without-debug : debug_counts l.debug ≡ none → l.in_force ≡ all_absent
  without-debug d = go l.debug refl d
    where
      go : (x : Option (Tables (List ℕ))) → l.debug ≡ x → debug_counts x ≡ none → l.in_force ≡ all_absent
      go none q d = sym told_of ∙ ap (in_force_with section) q
      go (some t) q d = absent (sym d)

pub loaded-rows : (hash : List ℕ → List ℕ) → LoadedRows hash
loaded-rows hash =
    record {
      debug = λ f r c e.
          let a = steps (load hash f) e in
          subst (λ (x : Container). x.debug ≡ some c → RowsOfSection (cut f x.header.directory.debug) c x.in_force) (same-found a.second)
          (with-debug hash f a.item a.first c);
      no-debug = λ f r e.
          let a = steps (load hash f) e in
          subst (λ (x : Container). x.debug ≡ none → x.in_force ≡ all_absent) (same-found a.second) (without-debug hash f a.item a.first);
    }

-- No lookup reads the rows
pub rows-unread : RowsUnread
unfolding debug_in
rows-unread = record { run = λ f r u. refl; debug = λ f r u. refl; bad-place = λ f r u. refl }

-- The replaced counts
pub counts-covered : CountsCovered
counts-covered =
    record {
      all-six = λ u v e.
          record {
            lines = ap (λ (l : List ℕ). get_or l 0 0) e;
            variables = ap (λ (l : List ℕ). get_or l 1 0) e;
            functions = ap (λ (l : List ℕ). get_or l 2 0) e;
            strings = ap (λ (l : List ℕ). get_or l 3 0) e;
            files = ap (λ (l : List ℕ). get_or l 4 0) e;
            enumerations = ap (λ (l : List ℕ). get_or l 5 0) e;
          };
      nothing-else = λ u v s. rw (s.lines, s.variables, s.functions, s.strings, s.files, s.enumerations);
    }

-- M, and M with an unknown table: what is loaded of a file has the rows of its record
rows-of-file : (hash : List ℕ → List ℕ) (f : List ℕ) (l : Loaded) (u : InForce) → load hash f ≡ found l → (read_from hash f >>= λ r. found r.in_force) ≡ found u
    → l.in_force.lines ≡ u.lines
rows-of-file hash f l u e d = ap (λ v. v.lines) (same-found (rw e at d))

pub rows-shift : (hash : List ℕ → List ℕ) → RowsShift hash
rows-shift hash =
    let x = second-half-not-vacuous hash in
    record {
      files = x;
      first-row = rows-of-file hash mill x.first (only_lines 0 0) x.first-loads (in-force-examples hash).one-table;
      second-row = rows-of-file hash mill_more x.second (only_lines 1 0) x.second-loads (shifted hash);
    }
