-- The rows of a debug section that holds all that its count announces.
use Rattle.std.specs.Prelude.{ℕ, ◌+◌, ◌*◌, ◌<◌, ◌≤◌, ◌≡◌, List, length, drop}
use Rattle.reading.specs.Reader.{got}
use Rattle.format.specs.Debug.{Row, rows_of}

pub record RowsRead (s : List ℕ) (rows : List Row) : Type 0 where
  pub whole : 2 + 8 * length rows ≤ length s
  pub few : length rows < 65536
  pub reads : rows_of s ≡ got rows (drop (2 + 8 * length rows) s)
