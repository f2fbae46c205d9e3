-- Line lookup (document 01, "Sections", Line lookup).
use Rattle.std.specs.Prelude.{Bool, true, ◌&&◌, ◌||◌, cond, List, [], ◌∷◌, ℕ, eqb, leb, ltb}
use Rattle.std.proofs.Math.Option.{Option, none, some}
use Rattle.reading.specs.Answer.{Got, ◌>>◌, need, present}
use Rattle.format.specs.Faults.{no_line, unsorted_map}
use Rattle.format.specs.Debug.{Line}

-- Document 01's "sorted": pairs (function, offset) never fall

abbrev pub in_order : Line → Line → Bool
in_order a b = ltb a.function b.function || (eqb a.function b.function && leb a.offset b.offset)

unfoldable pub sorted : List Line → Bool
sorted [] = true
sorted (a ∷ []) = true
sorted (a ∷ b ∷ es) = in_order a b && sorted (b ∷ es)

-- The last entry of the asked function whose offset is greatest among those not above the query

abbrev pub candidate : ℕ → ℕ → Line → Bool
candidate function query e = eqb e.function function && leb e.offset query

-- the better of the best so far and a later candidate: the later one, unless its offset is less
abbrev pub better : Option Line → Line → Option Line
better none e = some e
better (some best) e = cond (leb best.offset e.offset) (some e) (some best)

abbrev pub best_of : ℕ → ℕ → Option Line → List Line → Option Line
best_of function query best [] = best
best_of function query best (e ∷ es) = best_of function query (cond (candidate function query e) (better best e) best) es

-- 14 on a map that is not sorted, 13 where there is no such entry
unfoldable pub line_for : ℕ → ℕ → List Line → Got Line
line_for function query es = need (sorted es) unsorted_map >> present no_line (best_of function query none es)
