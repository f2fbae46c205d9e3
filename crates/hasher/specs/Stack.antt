-- The stack of chaining values: those of finished subtrees that wait to be joined, oldest first.
use Rattle.std.specs.Prelude.{cond, List, [], ◌∷◌, map, ℕ, zero, suc, ◌+◌, ◌*◌, ◌-◌, ◌^◌, min, ltb, length, take, drop, set}
use Rattle.compression.specs.Sizes.{chunk_len}
use Rattle.hasher.specs.Tree.{node}
use Rattle.hasher.specs.Hash.{chaining_value, parent_output, chunk_output}
use Rattle.hasher.specs.declared.Output.{Output}
use Rattle.hasher.specs.declared.ChainingValue.{ChainingValue}
use Rattle.hasher.specs.declared.CvStack.{CvStack}

-- How many chaining values can wait (document 01: "up to eight chaining values wait"); at most 2 ^ levels chunks are hashed.
abbrev pub levels : ℕ
levels = 8

abbrev pub words_of : ChainingValue → List ℕ
words_of v = v.words

-- the values that wait; a stack whose length is more than its places has as many values as places
abbrev pub values_of : CvStack → List (List ℕ)
values_of s = map words_of (take s.len s.values)

-- a value joined with the values s, the newest first
unfoldable pub joined : List ℕ → List (List ℕ) → List ℕ
joined c [] = c
joined c (v ∷ s) = chaining_value (parent_output v (joined c s))

-- the root above the values s and an output, which is joined with the newest first
unfoldable pub under : Output → List (List ℕ) → Output
under o [] = o
under o (v ∷ s) = parent_output v (chaining_value (under o s))

-- The stack after c was joined `joins` times with its newest values and the result pushed. If fewer values wait, all are joined; if every
-- place is taken, the result is lost.
unfoldable pub pushed : CvStack → ℕ → List ℕ → CvStack
pushed s joins c =
    let place = min s.len levels - joins in
    record {
      values = set s.values place (record { words = joined c (drop place (values_of s)) });
      len = min (place + 1) levels;
    }

-- what waits after the bytes fs, which are fewer than 2 ^ d whole chunks from number t on: the root of each full subtree, largest first
unfoldable pub waiting : ℕ → ℕ → List ℕ → List (List ℕ)
waiting zero t fs = []
waiting (suc d) t fs =
    let small = waiting d t fs in
    let large = chaining_value (node chunk_output parent_output chaining_value d t (take (chunk_len * 2 ^ d) fs)) ∷ waiting d (t + 2 ^ d) (drop (chunk_len * 2 ^ d) fs) in
    cond (ltb (length fs) (chunk_len * 2 ^ d)) small large
