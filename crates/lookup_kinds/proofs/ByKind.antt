-- The numbers of a lookup by its kind.
use Prim.Native.Nat.{ℕ, ◌≤◌}
use native.Mathlib.Omega.{arith}
use mathlib.Core.Path.{◌≡◌, refl}
use mathlib.Core.List.{List, []}
use mathlib.Core.Option.{Option, none, some}
use lib.ListN.{get_or-eq_default}
use Rattle.std.specs.Prelude.{cond, ltb}
use Rattle.reading.specs.Answer.{Got, refused, found, ◌>>=◌}
use Rattle.format.specs.Parts.{Place}
use Rattle.format.specs.Lookups.{EnumerationHead}
use Rattle.format.specs.Record.{Container}
use Rattle.debug_entries.specs.Answers.{with_values}
use Rattle.answer_numbers.specs.Fields.{answer_numbers, enumeration_numbers}
use Rattle.lookup_kinds.specs.Kinds.{lookups_of, lookups, looked_up, kind_count}

-- a number with no kind
beyond : (n : ℕ) → none ≡ cond (ltb n kind_count) (some n) none → kind_count ≤ n
beyond n h = grind arith

pub no_kind : (f : List ℕ) (c : Container) (kind i j : ℕ) → none ≡ cond (ltb kind kind_count) (some kind) none → looked_up f c kind i j ≡ []
unfolding looked_up lookups_of
no_kind f c kind i j h = get_or-eq_default (lookups f c i j) [] (beyond kind h)

-- an enumeration's numbers are those of its head
pub head_numbers : (base : ℕ) (x : Got (EnumerationHead Place)) → answer_numbers (λ e. enumeration_numbers e.head) (x >>= λ h. found (with_values base h)) ≡ answer_numbers enumeration_numbers x
head_numbers base (refused e) = refl
head_numbers base (found h) = refl
