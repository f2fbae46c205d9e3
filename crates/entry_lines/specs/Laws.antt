-- A constant whose part lies in the file, as in every entry that `constant_pool` returns, has the bytes that the format gives it.
use Rattle.std.specs.Prelude.{ℕ, List, ◌≡◌, length}
use Rattle.format.specs.Parts.{cut}
use Rattle.format.specs.Constants.{on_constant}
use Rattle.constant_pool.specs.Answers.{const_in, KeptEnds}
use Rattle.constant_pool.specs.declared.ConstEntry.{ConstEntry}
use Rattle.entry_lines.specs.Answers.{with_bytes}

pub record Laws : Type 0 where
  pub constants : (f : List ℕ) (c : ConstEntry) → KeptEnds (length f) c.kept → with_bytes f c ≡ on_constant (cut f) (const_in c)
