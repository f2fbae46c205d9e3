-- The numbers that the code's struct stands for are those that it was made of.
use Prim.Native.Nat.{ℕ, ◌-◌}
use mathlib.Core.Path.{◌≡◌, refl, ap, ◌∙◌}
use mathlib.Core.List.{List}
use lib.ListN.{length, replicate}
use lib.Seq.{take_at}
use Rattle.answer_numbers.specs.Answers.{capacity, numbers_of, numbers_in}
use Rattle.answer_numbers.specs.declared.Numbers.{Numbers}

pub numbers-kept : {ns : List ℕ} {r : Numbers} → r ≡ numbers_of ns → numbers_in r ≡ ns
numbers-kept {ns} e = ap numbers_in e ∙ take_at ns (replicate (capacity - length ns) 0) (length ns) refl
