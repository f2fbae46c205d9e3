-- What holds of a lookup over numbers that stand for a record.
use Rattle.std.specs.Prelude.{ℕ, List, ◌++◌, ◌≡◌, length, take}
use Rattle.reading.specs.Answer.{found}
use Rattle.format.specs.Record.{Container, read_from}
use Rattle.blake3.specs.Blake3.{blake3}
use Rattle.lookup_kinds.specs.Kinds.{looked_up}
use Rattle.record_numbers.specs.FromNumbers.{number_count}
use Rattle.record_numbers.specs.Laws.{kept_in_numbers}
use Rattle.capi.specs.Asked.{asked, looked_up_in, loaded}

pub record Laws : Type 0 where
  -- no lookup reads what numbers do not keep: the hashes, the reserved bytes and the rows in force
  pub rest-unread : (f : List ℕ) (r : Container) (kind i j : ℕ) → looked_up f (kept_in_numbers r) kind i j ≡ looked_up f r kind i j

-- the numbers of a file that loads, all 62 or the first 44, with any numbers behind them: a lookup over them answers what is asked of the file
pub record AsAsked (f : List ℕ) : Type 0 where
  pub all : (more : List ℕ) (c : Container) → read_from blake3 f ≡ found c → (kind i j : ℕ) → looked_up_in f (loaded f ++ more) kind i j ≡ asked f kind i j
  pub first : (more : List ℕ) (c : Container) → read_from blake3 f ≡ found c → (kind i j : ℕ) → looked_up_in f (take number_count (loaded f) ++ more) kind i j ≡ asked f kind i j
  pub how-many : (c : Container) → read_from blake3 f ≡ found c → length (loaded f) ≡ 62
