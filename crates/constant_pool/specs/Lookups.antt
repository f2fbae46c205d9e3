-- What the section's reader, its lookups and its walks answer: over the section's bytes `s`, and over a file; `p` is the section's place in it.
use Rattle.std.specs.Prelude.{ℕ, ◌+◌, ◌-◌, List, ℤ, length}
use Rattle.reading.specs.Answer.{Got, found, ◌>>=◌, item_of}
use Rattle.reading.specs.Places.{Next}
use Rattle.reading.specs.Tables.{table_from}
use Rattle.reading.specs.declared.Table.{Table}
use Rattle.format.specs.Parts.{Place, part, by_bytes, by_place}
use Rattle.format.specs.Constants.{Kept, Constant, kept_of, constant, constants}
use Rattle.format.specs.Lookups.{read_at, constant_of}
use Rattle.base.specs.Section.{step_in}
use Rattle.constant_pool.specs.Picks.{i32_of, u32_of, i64_of, u64_of, f32_of, f64_of, string_place_of, width_of}

-- Over the section's bytes

-- the number of constants
abbrev pub pool_count : List ℕ → Got ℕ
pool_count s = item_of (constants by_bytes s) >>= λ cs. found (length cs)

-- what is kept of the `size` bytes at `at`
abbrev pub kept_over : Place → List ℕ → ℕ → ℕ → ℕ → Kept Place
kept_over p s kind at size = kept_of (by_place p) kind (part at size s) (length s - (at + size))

-- where the constants from index `k` on stand, if the whole section reads
abbrev pub pool_from : Place → List ℕ → ℕ → Got Table
pool_from p s k = item_of (table_from (length s) k (constant (by_place p)) s)

-- the constant at an index
abbrev pub constant_in : Place → List ℕ → ℕ → Got (Constant Place)
constant_in p s i = item_of (constants (by_place p) s) >>= constant_of i

-- Over a file and the section's place in it

abbrev pub pool_at : List ℕ → Place → Got (List (Constant Place))
pool_at f p = read_at f p (constants (by_place p))

abbrev pub constant_at : List ℕ → Place → ℕ → Got (Constant Place)
constant_at f p i = pool_at f p >>= constant_of i

-- The getters: what is picked from the constant at an index

abbrev pub i32_at : List ℕ → Place → ℕ → Got ℤ
i32_at f p i = i32_of (constant_at f p i)

abbrev pub u32_at : List ℕ → Place → ℕ → Got ℕ
u32_at f p i = u32_of (constant_at f p i)

abbrev pub i64_at : List ℕ → Place → ℕ → Got ℤ
i64_at f p i = i64_of (constant_at f p i)

abbrev pub u64_at : List ℕ → Place → ℕ → Got ℕ
u64_at f p i = u64_of (constant_at f p i)

abbrev pub f32_at : List ℕ → Place → ℕ → Got ℕ
f32_at f p i = f32_of (constant_at f p i)

abbrev pub f64_at : List ℕ → Place → ℕ → Got ℕ
f64_at f p i = f64_of (constant_at f p i)

abbrev pub string_at : List ℕ → Place → ℕ → Got Place
string_at f p i = string_place_of (constant_at f p i)

abbrev pub char_width_at : List ℕ → Place → ℕ → Got ℕ
char_width_at f p i = width_of (constant_at f p i)

-- Walks

-- where a walk over the constants starts: after the count. Then one step of it
abbrev pub start_at : List ℕ → Place → Got Table
start_at f p = pool_at f p >>= λ cs. found (record { at = 2; count = length cs })

abbrev pub next_constant_at : List ℕ → Place → Table → Next (Constant Place)
next_constant_at f p t = step_in f p (constant (by_place p)) t
