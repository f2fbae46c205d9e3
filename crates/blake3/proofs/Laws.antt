-- The claims of `specs/Laws.antt`.
use mathlib.Core.Path.{ap, ◌∙◌}
use Rattle.hasher.specs.State.{start}
use Rattle.hasher.specs.Laws.{joined_parts}
use Rattle.hasher.proofs.Laws.{laws as fed-laws}
use Rattle.blake3.specs.Blake3.{finish_asked}
use Rattle.blake3.specs.Laws.{Laws}
use Rattle.blake3.proofs.Whole.{whole}

pub laws : Laws
laws = record { parts = λ ps. ap finish_asked (fed-laws.parts start ps) ∙ whole (joined_parts ps) }
