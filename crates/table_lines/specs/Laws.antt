-- For a file that loads, the texts of its tables at its own record's places make its listing.
use Rattle.std.specs.Prelude.{ℕ, List, ◌≡◌}
use Rattle.reading.specs.Answer.{found}
use Rattle.format.specs.Load.{Loaded, load}
use Rattle.format.specs.Record.{record_of}
use Rattle.listing.specs.Listing.{listing_of}
use Rattle.table_lines.specs.Whole.{file_text}

-- for any hash
pub record Laws : Type 0 where
  pub text-is-listing : (hash : List ℕ → List ℕ) (f : List ℕ) (l : Loaded) → load hash f ≡ found l → file_text f (record_of l) ≡ listing_of (load hash f)
