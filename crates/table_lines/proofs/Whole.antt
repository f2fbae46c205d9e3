-- The claim of `specs/Laws.antt`: each table that was loaded is what is read at its own record's place.
use Prim.Native.Nat.{ℕ}
use mathlib.Core.Path.{◌≡◌, refl, sym, ap, ◌∙◌}
use mathlib.Core.List.{List, [], ◌++◌, append-nil}
use mathlib.Core.Option.{Option, none, some}
use Rattle.reading.specs.Answer.{Got, refused, found, ◌>>=◌, present}
use Rattle.format.specs.Faults.{no_array, no_debug}
use Rattle.format.specs.Parts.{Place, cut, by_bytes, by_place}
use Rattle.format.specs.Types.{TypeTables}
use Rattle.format.specs.Debug.{Tables}
use Rattle.format.proofs.Keeping.{on_tables}
use Rattle.format.specs.Load.{Loaded, load}
use Rattle.format.specs.Record.{Container, debug_counts, record_of}
use Rattle.format.specs.Lookups.{types_in, debug_in}
use Rattle.format.proofs.Answers.{never, same-found, steps}
use Rattle.format.proofs.PlacesHold.{debug-on}
use Rattle.format.proofs.OwnRecord.{own}
use Rattle.entry_lines.specs.Lines.{line_line}
use Rattle.listing.specs.Listing.{each, type_lines, debug_lines, listing_of}
use Rattle.listing.specs.Lines.{debug_line}
use Rattle.table_lines.specs.Tables.{text_of, lines_text}
use Rattle.table_lines.specs.Whole.{types_text, file_text}
use Rattle.table_lines.specs.Laws.{Laws}

types-own : (f : List ℕ) (r : Container) (x : Option TypeTables) → types_in f r ≡ present no_array x → types_text f r ≡ type_lines x
types-own f r none e = rw e
types-own f r (some t) e = rw e

-- lines have no strings: they are the same by bytes and by places
lines-own : (f : List ℕ) (r : Container) (x : Option (Tables (List ℕ))) → debug_in (λ p. by_bytes) f r ≡ present no_debug x → debug_line (debug_counts x) ++ lines_text f r ≡ debug_lines x
lines-own f r none e = rw (lines_none (debug_in by_place f r) (sym (debug-on f r) ∙ e)) (append-nil (debug_line none))
  where
    lines_none : (y : Got (Tables Place)) → (y >>= λ t. found (on_tables (cut f) t)) ≡ refused no_debug → text_of y (λ u. each line_line u.lines) ≡ []
    lines_none (refused g) h = refl
    lines_none (found t) h = never (sym h)
lines-own f r (some t) e =
    let k = steps (debug_in by_place f r) (sym (debug-on f r) ∙ e) in
    let z : on_tables (cut f) k.item ≡ t = same-found k.second in
    ap (λ x. debug_line (debug_counts (some t)) ++ text_of x (λ u. each line_line u.lines)) k.first
    ∙ ap (λ (u : Tables (List ℕ)). debug_line (debug_counts (some t)) ++ each line_line u.lines) z

text-is-listing : (hash : List ℕ → List ℕ) (f : List ℕ) (l : Loaded) → load hash f ≡ found l → file_text f (record_of l) ≡ listing_of (load hash f)
text-is-listing hash f l e =
    let k = own hash f l e in
    rw (e, types-own f (record_of l) l.types k.types, lines-own f (record_of l) l.debug k.debug, k.tasks, k.constants, k.code)

pub laws : Laws
laws = record { text-is-listing = text-is-listing }
