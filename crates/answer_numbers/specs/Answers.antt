-- The code's numbers: how many they are, then each of them, and zeros behind them.
use Rattle.std.specs.Prelude.{ℕ, ◌-◌, List, ◌++◌, length, take, replicate}
use Rattle.answer_numbers.specs.declared.Numbers.{Numbers}

-- the most numbers of an answer
abbrev pub capacity : ℕ
capacity = 12

abbrev pub numbers_of : List ℕ → Numbers
numbers_of ns = record { numbers = ns ++ replicate (capacity - length ns) 0; count = length ns }

-- what any such struct stands for
abbrev pub numbers_in : Numbers → List ℕ
numbers_in n = take n.count n.numbers
