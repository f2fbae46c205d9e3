-- The rows in force, one row later.
use Rattle.std.specs.Prelude.{ℕ, suc, ◌<◌}
use Rattle.std.proofs.Math.Option.{Option, none, some}
use Rattle.format.specs.Debug.{Kind, lines, variables, functions, strings, files, enumerations, unknown}
use Rattle.format.specs.InForce.{TableRow, InForce}
use Rattle.debug_tables.specs.Answers.{RowsInForce}

-- a later row of a tag replaces the one in force, if there is one, and all that this one replaced
abbrev pub later_replaced : Option ℕ → ℕ → ℕ
later_replaced none n = 0
later_replaced (some j) n = suc n

abbrev pub later_row : TableRow → ℕ → TableRow
later_row t i = record { row = some i; replaced = later_replaced t.row t.replaced }

-- a later row of a kind, of the number `i`
abbrev pub put_row : Kind → ℕ → InForce → InForce
put_row lines i u =
    record { lines = later_row u.lines i; variables = u.variables; functions = u.functions; strings = u.strings; files = u.files; enumerations = u.enumerations }
put_row variables i u =
    record { lines = u.lines; variables = later_row u.variables i; functions = u.functions; strings = u.strings; files = u.files; enumerations = u.enumerations }
put_row functions i u =
    record { lines = u.lines; variables = u.variables; functions = later_row u.functions i; strings = u.strings; files = u.files; enumerations = u.enumerations }
put_row strings i u =
    record { lines = u.lines; variables = u.variables; functions = u.functions; strings = later_row u.strings i; files = u.files; enumerations = u.enumerations }
put_row files i u =
    record { lines = u.lines; variables = u.variables; functions = u.functions; strings = u.strings; files = later_row u.files i; enumerations = u.enumerations }
put_row enumerations i u =
    record { lines = u.lines; variables = u.variables; functions = u.functions; strings = u.strings; files = u.files; enumerations = later_row u.enumerations i }
put_row unknown i u = u

-- one more fits each count
pub record FewReplaced (u : RowsInForce) : Type 0 where
  pub lines : u.lines.replaced < 65535
  pub variables : u.variables.replaced < 65535
  pub functions : u.functions.replaced < 65535
  pub strings : u.strings.replaced < 65535
  pub files : u.files.replaced < 65535
  pub enumerations : u.enumerations.replaced < 65535
