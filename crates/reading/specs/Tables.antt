-- Where the entries of a table stand, all of them being read.
use Rattle.std.specs.Prelude.{ℕ, ◌-◌, min}
use Rattle.reading.specs.Reader.{Reader, ◌>>=◌, give, left, u16, many}
use Rattle.reading.specs.declared.Table.{Table}

-- a table with its count in front: its entries from the one of index `k` on, in a section of `whole` bytes. With no more than `k` none is left,
-- behind the last
unfoldable pub table_from : {A : Type 0} → ℕ → ℕ → Reader A → Reader Table
table_from whole k r = do
  n ← u16
  passed ← many (min k n) r
  behind ← left
  others ← many (n - k) r
  give (record { at = whole - behind; count = n - k })
