-- Demand 3, second half: a section with unknown tables added reads as the section without them does.
use mathlib.Core.Path.{◌≡◌, refl, sym, ap, subst, ◌∙◌}
use mathlib.Core.Bool.{true}
use mathlib.Core.List.{List, [], ◌∷◌, ◌++◌, append_assoc, append_cancel_right}
use mathlib.Core.Option.{some}
use Prim.Native.Nat.{ℕ, zero, suc, ◌+◌, ◌*◌}
use native.Mathlib.Omega.{arith}
use lib.Dec.{ltb}
use lib.ListN.{length, take, drop}
use borrow.Author.Tests.{le-ltb, lt-ltb}
use Rattle.reading.specs.Numbers.{le}
use Rattle.reading.specs.Reader.{got, Reader, many, bytes, u16}
use Rattle.reading.specs.Answer.{present}
use Rattle.reading.proofs.Reading.{both, bytes-all, bytes-length}
use Rattle.reading.proofs.Local.{Taken, Local}
use Rattle.format.specs.Faults.{no_debug}
use Rattle.format.specs.Parts.{Place, cut, Inside, by_bytes}
use Rattle.format.specs.Header.{Header}
use Rattle.format.specs.Integrity.{debug_hash_fits}
use Rattle.format.specs.Debug.{Row, unknown, tag_of, size_of, kind_of, payload_of, tables_of, skipped, Tables, no_tables, put, rows_of, debug_tables}
use Rattle.format.specs.InForce.{in_force_by, in_force_in, in_force_with, replaced_counts}
use Rattle.format.specs.Load.{load, readable, debug_of, debug_found}
use Rattle.format.specs.Record.{Container, debug_counts, record_of}
use Rattle.format.specs.Lookups.{debug_answers_of}
use Rattle.format.specs.Added.{RowAndPayload, all_rows, row_bytes, payload_bytes, Takes, WithUnknown, end, kept, added, Added}
use Rattle.format.specs.UnknownTables.{TablesAdded, UnknownTables, SameDebugRecords, UnknownTablesOfRecords}
use Rattle.format.proofs.Answers.{absent, same-found, steps}
use Rattle.format.proofs.Places.{is-inside}
use Rattle.format.proofs.Readers.{local-table}
use Rattle.format.proofs.Loads.{facts}
use Rattle.format.proofs.OwnRecord.{own-record}
use Rattle.format.proofs.InForce.{replaced-alike}

-- the bytes that a local reader takes give the same before anything else
frame : {A : Type 0} {r : Reader A} → Local r → (p t u : List ℕ) (a : A) → r (p ++ t) ≡ got a t → r (p ++ u) ≡ got a u
frame {A} {r} h p t u a e =
    let k : Taken r (p ++ t) a t = h.taken (p ++ t) a t e in
    rw (append_cancel_right p k.front t k.split) (k.again u)

-- Rows

-- each row has its 8 bytes
abbrev Whole : List RowAndPayload → Type 0
Whole [] = Unit {0}
Whole (p ∷ ps) = (length p.row ≡ 8) × Whole ps

rows_whole : (n : ℕ) (ps : List RowAndPayload) (s t : List ℕ) → many n (bytes 8) s ≡ got (all_rows ps) t → Whole ps
rows_whole n [] s t e = tt
rows_whole zero (p ∷ ps) s t e = absurd (let z : ◌≡◌ {A = ℕ} 0 1 = cc in omega arith)
rows_whole (suc n) (p ∷ ps) s t e =
    let k = both (bytes 8 s) e in
    let m = both (many n (bytes 8) k.middle) k.second in
    let h : k.item ≡ p.row = cc in
    let g : m.item ≡ all_rows ps = cc in
    (rw h at (bytes-length 8 s k.item k.middle k.first), rows_whole n ps k.middle m.middle (rw g at m.first))

interleaved-whole : {ps qs : List RowAndPayload} → WithUnknown ps qs → Whole ps → Whole qs
interleaved-whole end w = tt
interleaved-whole (kept h) w = (w.0, interleaved-whole h w.1)
interleaved-whole (added u h) w = (u.whole, interleaved-whole h w)

-- rows of 8 bytes are read back
rows-again : (ps : List RowAndPayload) (s : List ℕ) → Whole ps → many (length ps) (bytes 8) (row_bytes ps ++ s) ≡ got (all_rows ps) s
rows-again [] s w = refl
rows-again (p ∷ ps) s w =
    rw (append_assoc p.row (row_bytes ps) s, bytes-all 8 p.row (row_bytes ps ++ s) w.0, rows-again ps s w.1)

-- E's row count and rows
count_of : (low high : ℕ) (s : List ℕ) → u16 (low ∷ high ∷ s) ≡ got (low + 256 * high) s
unfolding bytes le
count_of low high s = rw (le-ltb (length (low ∷ high ∷ s)) 2 (omega arith)) (ap (λ (n : ℕ). got n s) (omega arith))

rows-of-e : (low high : ℕ) (ps : List RowAndPayload) (s : List ℕ) → low + 256 * high ≡ length ps → Whole ps
    → rows_of (low ∷ high ∷ row_bytes ps ++ s) ≡ got (all_rows ps) s
unfolding rows_of
rows-of-e low high ps s n w = rw (count_of low high (row_bytes ps ++ s), n) (rows-again ps s w)

rows-of-d : (s : List ℕ) (ps : List RowAndPayload) (t : List ℕ) → rows_of s ≡ got (all_rows ps) t → Whole ps
unfolding rows_of
rows-of-d s ps t e = let k = both (u16 s) e in rows_whole k.item ps k.middle t k.second

-- Payloads

-- that of an unknown table is skipped
skip : (row : Row) (b u : List ℕ) → kind_of (tag_of row) ≡ unknown → length b ≡ size_of row → payload_of by_bytes row (b ++ u) ≡ got skipped u
unfolding payload_of
skip row b u k n = rw (k, bytes-all (size_of row) b u n)

-- and so unknown tables change nothing
same_tables : {ps qs : List RowAndPayload} → WithUnknown ps qs → (s rest : List ℕ) (t : Tables (List ℕ)) → Takes ps s rest
    → tables_of by_bytes (all_rows qs) t (payload_bytes qs ++ rest) ≡ tables_of by_bytes (all_rows ps) t s
same_tables end s rest t h = ap (got t) (sym h)
same_tables (kept {p} {ps} {qs} w) s rest t (x, s', e, b, h) =
    rw (
      append_assoc p.payload (payload_bytes qs) rest,
      frame (local-table p.row) p.payload s' (payload_bytes qs ++ rest) x (rw b at e),
      e,
    )
    (same_tables w s' rest (put x t) h)
same_tables (added {q} {ps} {qs} u w) s rest t h =
    rw (append_assoc q.payload (payload_bytes qs) rest, skip q.row q.payload (payload_bytes qs ++ rest) u.not_listed u.sized) (same_tables w s rest t h)

-- E's rows, and the bytes behind them
new-rows : {d e : List ℕ} → (a : Added d e) → rows_of e ≡ got (all_rows a.new) (payload_bytes a.new ++ a.old.rest)
new-rows {d} {e} a =
    let p = a.old in
    rw (
      a.holds,
      append_assoc (row_bytes a.new) (payload_bytes a.new) p.rest,
      rows-of-e a.low a.high a.new (payload_bytes a.new ++ p.rest) a.count
          (interleaved-whole a.interleaved (rows-of-d d p.parts p.behind_rows p.rows)),
    )

-- E reads as D does
section-same : {d e : List ℕ} → Added d e → debug_tables by_bytes e ≡ debug_tables by_bytes d
unfolding debug_tables
section-same {d} {e} a = let p = a.old in rw (new-rows a, p.rows) (same_tables a.interleaved p.behind_rows p.rest no_tables p.takes)

-- and each of its tables in force has replaced as many
replaced-same : {d e : List ℕ} → Added d e → replaced_counts (in_force_in d) ≡ replaced_counts (in_force_in e)
unfolding in_force_in
replaced-same a =
    ap (λ x. replaced_counts (in_force_by x)) a.old.rows ∙ replaced-alike a.interleaved ∙ sym (ap (λ x. replaced_counts (in_force_by x)) (new-rows a))

debug-same : {d e : List ℕ} → Added d e → debug_of e ≡ debug_of d
unfolding debug_of
debug-same a = ap readable (section-same a)

-- Files

-- a section that reads is not empty
empty-stops : (t : Tables (List ℕ)) → debug_of [] ≡ some t → ⊥
unfolding debug_of debug_tables rows_of bytes
empty-stops t e = absent e

size_above : (f : List ℕ) (p : Place) (t : Tables (List ℕ)) → debug_of (cut f p) ≡ some t → ltb 0 p.size ≡ true
size_above f p t e = go p.size e
  where
    go : (n : ℕ) → debug_of (take n (drop p.offset f)) ≡ some t → ltb 0 n ≡ true
    go zero e = absurd (empty-stops t e)
    go (suc n) e = lt-ltb 0 (suc n) (omega arith)

-- a section in its place, with a hash that fits, that reads is the file's debug
has-debug : (hash : List ℕ → List ℕ) (f : List ℕ) (h : Header) (t : Tables (List ℕ)) → Inside f h.directory.debug
    → debug_hash_fits hash h.debug_hash (cut f h.directory.debug) ≡ true → debug_of (cut f h.directory.debug) ≡ some t → debug_found hash f h ≡ some t
unfolding debug_found
has-debug hash f h t i k e = rw (size_above f h.directory.debug t e, is-inside f h.directory.debug i, k) e

pub unknown-tables : (hash : List ℕ → List ℕ) → UnknownTables hash
unknown-tables hash f g a b d e h =
    let t = h.first_reads.0 in
    let r = h.first_reads.1 in
    let p : a.debug ≡ some t = sym (facts hash f a d).debug ∙ has-debug hash f a.header t h.first-inside h.first_fits r in
    let q : b.debug ≡ some t = sym (facts hash g b e).debug ∙ has-debug hash g b.header t h.second-inside h.second_fits (debug-same h.added ∙ r) in
    record {
      tables = t;
      in-first = p;
      in-second = q;
      replaced =
          ap replaced_counts (sym (facts hash f a d).in-force ∙ ap (in_force_with (cut f a.header.directory.debug)) ((facts hash f a d).debug ∙ p))
          ∙ replaced-same h.added
          ∙ ap replaced_counts (sym (ap (in_force_with (cut g b.header.directory.debug)) ((facts hash g b e).debug ∙ q)) ∙ (facts hash g b e).in-force);
      answers = (own-record hash f a d).debug ∙ ap (λ x. debug_answers_of (present no_debug x)) (p ∙ sym q) ∙ sym (own-record hash g b e).debug;
    }

-- of the records, each that of what was loaded
pub unknown-tables-of-records : (hash : List ℕ → List ℕ) → UnknownTablesOfRecords hash
unknown-tables-of-records hash f g r s d e h =
    let a = steps (load hash f) d in
    let b = steps (load hash g) e in
    subst (λ (x : Container). TablesAdded hash f x.header g s.header → SameDebugRecords f x g s) (same-found a.second)
    (subst (λ (y : Container). TablesAdded hash f a.item.header g y.header → SameDebugRecords f (record_of a.item) g y) (same-found b.second)
    (λ k.
    let z = unknown-tables hash f g a.item b.item a.first b.first k in
    record { counts = _; in-first = ap debug_counts z.in-first; in-second = ap debug_counts z.in-second; replaced = z.replaced; answers = z.answers }))
    h
