-- What the code's answers mean.
use Rattle.std.specs.Prelude.{ℕ, ◌≤◌, cond, List, [], ◌∷◌}
use Rattle.std.specs.Prelude as std
use Rattle.std.proofs.Math.Option.{Option, none, some}
use Rattle.format.specs.Record as format
use Rattle.record.specs.Answers.{container_in}
use Rattle.record.specs.declared.Container.{Container}
use Rattle.record_numbers.specs.FromNumbers.{types_flag_at, debug_flag_at, number_at, most_numbers, fits}
use Rattle.record_numbers.specs.declared.fitting.Fitting.{Fitting}

abbrev pub maybe_record : std.Option Container → Option format.Container
maybe_record std.None = none
maybe_record (std.Some c) = some (container_in c)

-- numbers that fit their fields, or none
abbrev pub maybe_fitting : std.Option Fitting → Option (List ℕ)
maybe_fitting std.None = none
maybe_fitting (std.Some f) = some f.n

-- the numbers themselves, where they fit by their own flags
abbrev pub fitting_of : List ℕ → Option (List ℕ)
fitting_of ns = cond (fits (most_numbers (number_at ns types_flag_at) (number_at ns debug_flag_at)) ns) (some ns) none

-- each number of a list is at most as much, and there are as many
abbrev pub AllAtMost : List ℕ → List ℕ → Type 0
AllAtMost [] [] = Unit {0}
AllAtMost [] (n ∷ ns) = ⊥
AllAtMost (most ∷ ms) [] = ⊥
AllAtMost (most ∷ ms) (n ∷ ns) = (n ≤ most) × AllAtMost ms ns
