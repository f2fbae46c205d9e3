-- The choice of the entry as the code makes it (document 01: "On a sorted map the walk ends at the first entry whose key is above the query").
use Rattle.std.specs.Prelude.{Bool, ◌&&◌, ◌||◌, cond, List, [], ◌∷◌, ℕ, eqb, ltb}
use Rattle.std.proofs.Math.Option.{Option}
use Rattle.format.specs.Debug.{Line}
use Rattle.format.specs.Lines.{better}

-- the entry's key (function, offset) is above the query
abbrev pub is_above : ℕ → ℕ → Line → Bool
is_above function query e = ltb function e.function || (eqb function e.function && ltb query e.offset)

-- the best entry of the asked function before the first entry above the query
abbrev pub choice_of : ℕ → ℕ → Option Line → List Line → Option Line
choice_of function query best [] = best
choice_of function query best (e ∷ es) =
    cond (is_above function query e) best (choice_of function query (cond (eqb e.function function) (better best e) best) es)
