-- A walk over the constants, step by step from its start, gives the constants.
use Rattle.std.specs.Prelude.{ℕ, ◌≡◌, List}
use Rattle.reading.specs.Answer.{found}
use Rattle.reading.specs.Places.{step_of, walked}
use Rattle.reading.specs.declared.Table.{Table}
use Rattle.format.specs.Parts.{Place, cut, by_place}
use Rattle.format.specs.Constants.{constant}
use Rattle.constant_pool.specs.Lookups.{pool_at, start_at, next_constant_at}

-- if the walk starts at `t`, its steps are those over the section's entries, and as many steps as `t` counts give the constants
pub record Walk (f : List ℕ) (p : Place) (t : Table) : Type 0 where
  pub steps : (u : Table) → next_constant_at f p u ≡ step_of (constant (by_place p)) (cut f p) u
  pub gives : walked t.count (constant (by_place p)) (cut f p) t ≡ pool_at f p

pub record Laws : Type 0 where
  pub walk : (f : List ℕ) (p : Place) (t : Table) → start_at f p ≡ found t → Walk f p t
