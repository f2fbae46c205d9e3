-- The counts of the tables in force.
use mathlib.Core.Path.{◌≡◌, sym, ap, ◌∙◌}
use mathlib.Core.List.{List}
use Prim.Native.Nat.{ℕ}
use Rattle.reading.specs.Fault.{Fault}
use Rattle.reading.specs.Answer.{Got, refused, found, ◌>>=◌, item_of}
use Rattle.reading.proofs.Tables.{holds-count}
use Rattle.format.specs.Parts.{by_bytes}
use Rattle.format.specs.Debug.{Tables}
use Rattle.format.specs.Record.{DebugCounts, table_counts}
use Rattle.debug_tables.specs.Starts.{debug_starts}
use Rattle.debug_tables.specs.Counts.{counts_read}
use Rattle.debug_tables.specs.Laws as standing-in
use Rattle.debug_tables.specs.SixTags.{DebugTables}
use Rattle.debug_tables.proofs.Standing as standing

abbrev counted : Got (Tables (List ℕ)) → Got DebugCounts
counted x = x >>= λ t. found (table_counts t)

module _ (s : List ℕ) where
  pub none_counted : (f : Fault) → refused f ≡ item_of (debug_starts s) → refused f ≡ counts_read s
  none_counted f e = sym (ap counted (standing.unreadable by_bytes s f (sym e)))

  abbrev counts_of : DebugTables → DebugCounts
  counts_of u =
      record {
        lines = u.lines.count;
        variables = u.variables.count;
        functions = u.functions.count;
        strings = u.strings.count;
        files = u.files.count;
        enumerations = u.enumerations.count;
      }

  -- the counts of tables that stand there
  same-counts : (u : DebugTables) (t : Tables (List ℕ)) → standing-in.Standing by_bytes s u t → counts_of u ≡ table_counts t
  same-counts u t g =
      rw (
        holds-count _ s u.lines t.lines g.lines,
        holds-count _ s u.variables t.variables g.variables,
        holds-count _ s u.functions t.functions g.functions,
        holds-count _ s u.strings t.strings g.strings,
        holds-count _ s u.files t.files g.files,
        holds-count _ s u.enumerations t.enumerations g.enumerations,
      )

  pub some_counted : (u : DebugTables) → found u ≡ item_of (debug_starts s) → found (counts_of u) ≡ counts_read s
  some_counted u e =
      let q = standing.readable by_bytes s u (sym e) in
      ap found (same-counts u q.tables q.stand) ∙ sym (ap counted q.reads)
