-- The entry at an index of a table, over any section, place and count: 29 if the table has none there (document 01: "any other entry lookup | 29
-- NoEntry"), else the first fault of the entries up to it, or the entry. Later entries are not read; in a table that reads, this is indexing into its entries.
use Rattle.std.specs.Prelude.{ℕ, cond, List, ltb, drop}
use Rattle.reading.specs.Reader.{Reader, next, many}
use Rattle.reading.specs.Answer.{Got, refused, item_of}
use Rattle.format.specs.Faults.{no_entry}

-- in the table of `n` entries at `at` of `s`
unfoldable pub picked : {A : Type 0} → Reader A → List ℕ → ℕ → ℕ → ℕ → Got A
picked r s at n k = cond (ltb k n) (item_of (next (many k r (drop at s)) (λ before. r))) (refused no_entry)
