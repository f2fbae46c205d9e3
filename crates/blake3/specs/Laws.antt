-- The claim about a state that is fed in parts and finished.
use Rattle.std.specs.Prelude.{◌≡◌, List, ℕ}
use Rattle.hasher.specs.State.{start}
use Rattle.hasher.specs.Laws.{joined_parts, fed_parts}
use Rattle.blake3.specs.Blake3.{hash_asked, finish_asked}

pub record Laws : Type 0 where
  -- from the start, with any parts of any length: the same as hashing their concatenation, the refusal included
  pub parts : (ps : List (List ℕ)) → finish_asked (fed_parts start ps) ≡ hash_asked (joined_parts ps)
