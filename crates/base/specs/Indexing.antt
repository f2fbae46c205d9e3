-- Lookups in a table whose entries all have one width.
use Rattle.std.specs.Prelude.{ℕ, ◌+◌, ◌*◌, cond, List, Option, Result, ◌≡◌, ltb, drop}
use Rattle.reading.specs.Fault.{Fault}
use Rattle.reading.specs.Reader.{got, Reader}
use Rattle.reading.specs.Answer.{Got, refused, item_of, indexed}
use Rattle.reading.specs.Places.{left_of}
use Rattle.reading.specs.declared.Table.{Table}
use Rattle.base.specs.Answers.{found_by}

-- in a table that reads, the answer is the entry at the index; whatever `out` is to be said where the table has none
abbrev pub Indexes : {E T A : Type 0} → (E → Fault) → (T → A) → Reader A → List ℕ → Table → ℕ → Result (Option T) E → Type 0
Indexes {E} {T} {A} told view r s t k answer = (xs : List A) (rest : List ℕ) → left_of r s t ≡ got xs rest → (out : Fault) → found_by told view out answer ≡ indexed out xs k

-- in any table, what the reader of one entry gives at the index times the width `w`, whatever stands before and behind; `out` where the table has none
abbrev pub read_by_width : {A : Type 0} → Fault → Reader A → ℕ → List ℕ → Table → ℕ → Got A
read_by_width out r w s t k = cond (ltb k t.count) (item_of (r (drop (t.at + w * k) s))) (refused out)

abbrev pub ReadsByWidth : {E T A : Type 0} → (E → Fault) → (T → A) → Reader A → ℕ → List ℕ → Table → ℕ → Result (Option T) E → Type 0
ReadsByWidth told view r w s t k answer = (out : Fault) → found_by told view out answer ≡ read_by_width out r w s t k
