-- All that is claimed of document 02's slips, in their order, for any hash. Each slip has a module of its own with its definitions, named in
-- `Lib`, and fields here with what is claimed of them. What a slip changes of document 01 is changed in `format`.
use Rattle.std.specs.Prelude.{ℕ, ◌≡◌, List}
use Rattle.reading.specs.Reader.{got}
use Rattle.format.specs.Parts.{by_bytes}
use Rattle.format.specs.Debug.{Row, Tables, no_tables, tables_of}
use Rattle.requests.specs.BadPlace.{BadPlaces, BadPlacesInFiles, StillNone, BadPlaceExamples, LoadedExample}
use Rattle.requests.specs.RowsInForce.{SixTags, TablesOfRows, LoadedRows, RowsUnread, CountsCovered, RowsShift, InForceExamples}

pub record Claims (hash : List ℕ → List ℕ) : Type 0 where
  -- slip 1, which byte of a name is bad
  pub bad-places : (s : List ℕ) → BadPlaces s
  pub bad-places-in-files : BadPlacesInFiles
  pub still-none : StillNone hash
  pub bad-place-examples : BadPlaceExamples
  pub loaded-example : LoadedExample hash
  -- slip 2, which debug table is in force
  pub six-tags : (rows : List Row) → SixTags rows
  pub tables-of-rows : (rows : List Row) (payloads : List ℕ) (t : Tables (List ℕ)) (rest : List ℕ) → tables_of by_bytes rows no_tables payloads ≡ got t rest
      → TablesOfRows rows payloads t
  pub loaded-rows : LoadedRows hash
  pub rows-unread : RowsUnread
  pub counts-covered : CountsCovered
  pub rows-shift : RowsShift hash
  pub in-force-examples : InForceExamples hash

abbrev pub AllClaims : Type 0
AllClaims = (hash : List ℕ → List ℕ) → Claims hash
