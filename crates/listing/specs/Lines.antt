-- The lister's lines other than entries of tables (document 01, "Mill file M", from "Fields: version, profile, flags" on).
use Rattle.std.specs.Prelude.{ℕ, List, [], ◌∷◌}
use Rattle.std.proofs.Math.Option.{Option, none, some}
use Rattle.reading.specs.Fault.{Fault}
use Rattle.format.specs.Header.{Header}
use Rattle.format.specs.Record.{DebugCounts}
use Rattle.base.specs.Error.{refusal_number, refusal_values}
use Rattle.text.specs.Text.{ascii, line, dash_line}

-- version, profile, flags
abbrev pub container_line : Header → List ℕ
container_line h = line (ascii "container") (h.version ∷ h.profile ∷ h.flags ∷ [])

-- "`debug` counts tags 1, 2, 3, 4, 6, 9, or says `none`."
abbrev pub debug_line : Option DebugCounts → List ℕ
debug_line none = ascii "debug none\n"
debug_line (some c) = line (ascii "debug") (c.lines ∷ c.variables ∷ c.functions ∷ c.strings ∷ c.files ∷ c.enumerations ∷ [])

abbrev pub end_line : List ℕ
end_line = ascii "end\n"

-- "A refused file prints one line, `refused`, the number, its values or `-`."
abbrev pub values_line : ℕ → List ℕ → List ℕ
values_line n [] = dash_line (ascii "refused") (n ∷ [])
values_line n (v ∷ vs) = line (ascii "refused") (n ∷ v ∷ vs)

abbrev pub refused_line : Fault → List ℕ
refused_line f = values_line (refusal_number f) (refusal_values f)
