-- Texts one behind the other, each by a call and what it answers.
use Prim.Native.Nat.{ℕ}
use mathlib.Core.List.{List, [], ◌∷◌, ◌++◌}
use Rattle.std.specs.Prelude.{Some, None}
use Rattle.lent.specs.Output.{Wrote, PutsRestFree}
use Rattle.lent.proofs.Writing.{wrote_then}
use Rattle.lent.proofs.Fitting.{free-at, free-stop}

-- the next text is written
pub next-put : {b a c s t : List ℕ} {at n m : ℕ} → Wrote b at s a n → PutsRestFree a n t c (Some m) → Wrote b at (s ++ t) c m
next-put so_far next = wrote_then so_far (free-at next)

-- the texts behind one that does not fit
abbrev behind : List ℕ → List (List ℕ) → List ℕ
behind s [] = s
behind s (t ∷ ts) = behind (s ++ t) ts

pub full : {b a s : List ℕ} {at : ℕ} (ts : List (List ℕ)) → PutsRestFree b at s a None → PutsRestFree b at (behind s ts) a None
full [] p = p
full (t ∷ ts) p = full ts (free-stop t p)
