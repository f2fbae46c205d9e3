-- How code that keeps places instead of lists is compared with a reader.
use Rattle.std.specs.Prelude.{ℕ, zero, suc, ◌-◌, ◌≤◌, cond, List, [], ◌∷◌, ◌≡◌, eqb, length, drop}
use Rattle.reading.specs.Fault.{Fault}
use Rattle.reading.specs.Reader.{Read, fault, got, Reader, many}
use Rattle.reading.specs.Answer.{Got, refused, found, ◌>>=◌}
use Rattle.reading.specs.declared.Table.{Table}

-- an item read at a place: it stops with a fault, or is `a` and ends at `m`
pub data Step (A : Type 0) : Type 0 where
  stops : Fault → Step A
  item : A → ℕ → Step A

abbrev pub Reads : {A : Type 0} → Reader A → List ℕ → ℕ → Step A → Type 0
Reads r s at (stops f) = r (drop at s) ≡ fault f
Reads r s at (item a m) = (m ≤ length s) × (r (drop at s) ≡ got a (drop m s))

-- what `r` gives at the place `at` of `s`: the fault that it stops with; or the item, and the place where the bytes begin that it leaves

abbrev pub step_given : {A : Type 0} → List ℕ → Read A → Step A
step_given s (fault f) = stops f
step_given s (got a rest) = item a (length s - length rest)

unfoldable pub step_at : {A : Type 0} → Reader A → List ℕ → ℕ → Step A
step_at r s at = step_given s (r (drop at s))

-- an item passed over: it stops with a fault, or ends at `m`, whatever it is
pub data Way : Type 0 where
  stops_by : Fault → Way
  on_to : ℕ → Way

abbrev pub Goes : {A : Type 0} → Reader A → List ℕ → ℕ → Way → Type 0
Goes r s at (stops_by f) = r (drop at s) ≡ fault f
Goes {A} r s at (on_to m) = (m ≤ length s) × ((a : A) × (r (drop at s) ≡ got a (drop m s)))

-- where `r` goes from the place `at` of `s`: the same without the item

abbrev pub way_given : {A : Type 0} → List ℕ → Read A → Way
way_given s (fault f) = stops_by f
way_given s (got a rest) = on_to (length s - length rest)

unfoldable pub way_at : {A : Type 0} → Reader A → List ℕ → ℕ → Way
way_at r s at = way_given s (r (drop at s))

-- what a table still has to give, from its place on
abbrev pub left_of : {A : Type 0} → Reader A → List ℕ → Table → Read (List A)
left_of r s t = many t.count r (drop t.at s)

-- a table that is readable, with its entries
pub record Holds {A : Type 0} (r : Reader A) (s : List ℕ) (t : Table) (xs : List A) : Type 0 where
  pub within : t.at ≤ length s
  pub rest : List ℕ
  pub reads : left_of r s t ≡ got xs rest

-- One step of a walk, over any list and table: no entry is left; the next one stops with a fault; or it is `a`, and the table
-- of the others starts behind it

pub data Next (A : Type 0) : Type 0 where
  ends : Next A
  faulty : Fault → Next A
  entry : A → Table → Next A

abbrev pub next_of : {A : Type 0} → List ℕ → Table → Read A → Next A
next_of s t (fault f) = faulty f
next_of s t (got a rest) = entry a (record { at = length s - length rest; count = t.count - 1 })

unfoldable pub step_of : {A : Type 0} → Reader A → List ℕ → Table → Next A
step_of r s t = cond (eqb t.count 0) ends (next_of s t (r (drop t.at s)))

abbrev pub on_next : {A : Type 0} → Next A → (Table → Got (List A)) → Got (List A)
on_next ends go = found []
on_next (faulty f) go = refused f
on_next (entry a u) go = go u >>= λ xs. found (a ∷ xs)

-- the entries that at most `n` steps give, one behind the other
abbrev pub driven : {A : Type 0} → (Table → Next A) → ℕ → Table → Got (List A)
driven step zero t = found []
driven step (suc n) t = on_next (step t) (driven step n)

-- from a table on, as many steps as it has entries give them, and more steps give no more
abbrev pub Gives : {A : Type 0} → (Table → Next A) → Table → List A → Type 0
Gives step t xs = (n : ℕ) → t.count ≤ n → driven step n t ≡ found xs

-- the steps, driven from the table that `start` gives, yield `xs`
pub record GivesFrom {A : Type 0} (start : Got Table) (step : Table → Next A) (xs : List A) : Type 0 where
  pub first : Table
  pub starts : start ≡ found first
  pub gives : Gives step first xs

abbrev pub walked : {A : Type 0} → ℕ → Reader A → List ℕ → Table → Got (List A)
walked n r s t = driven (step_of r s) n t
