-- The listing of a file by what `read_from` returns for it.
use Prim.Native.Nat.{ℕ}
use mathlib.Core.Path.{◌≡◌, sym, ap, ◌∙◌}
use mathlib.Core.List.{List}
use Rattle.reading.specs.Fault.{Fault}
use Rattle.reading.specs.Answer.{Got, refused, found, ◌>>=◌}
use Rattle.format.specs.Load.{Loaded, load}
use Rattle.format.specs.Record.{Container, record_of, read_from}
use Rattle.format.proofs.Answers.{never, same-found, steps}
use Rattle.blake3.specs.Blake3.{blake3}
use Rattle.listing.specs.Lines.{refused_line}
use Rattle.listing.specs.Listing.{listing_of}
use Rattle.table_lines.specs.Whole.{file_text}
use Rattle.table_lines.proofs.Whole.{laws}
use Rattle.file_listing.specs.Texts.{file_listing}

refused-by : (x : Got Loaded) {g : Fault} → refused g ≡ (x >>= λ l. found (record_of l)) → refused_line g ≡ listing_of x
refused-by (refused d) {g} e = let z : g ≡ d = cc in ap refused_line z
refused-by (found l) e = never e

pub refused-listing : (f : List ℕ) {g : Fault} → refused g ≡ read_from blake3 f → refused_line g ≡ file_listing f
refused-listing f e = refused-by (load blake3 f) e

pub loaded-listing : (f : List ℕ) {r : Container} → found r ≡ read_from blake3 f → file_text f r ≡ file_listing f
loaded-listing f e =
    let k = steps (load blake3 f) (sym e) in
    ap (file_text f) (sym (same-found k.second)) ∙ laws.text-is-listing blake3 f k.item k.first
