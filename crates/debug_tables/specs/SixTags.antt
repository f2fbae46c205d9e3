-- Something for each of the six tags that are listed.
use Rattle.std.specs.Prelude.{ℕ, Option, Some, None}
use Rattle.reading.specs.declared.Table.{Table}
use Rattle.format.specs.Debug.{Kind, lines, variables, functions, strings, files, enumerations, unknown}
use Rattle.debug_tables.specs.declared.SixTags.{SixTags}

-- where the tables in force stand
abbrev pub DebugTables : Type 0
DebugTables = SixTags Table

-- how many entries they have
abbrev pub DebugCounts : Type 0
DebugCounts = SixTags ℕ

module _ {T : Type 0} where
  -- the same for each tag
  abbrev pub all_tags : T → SixTags T
  all_tags x = record { lines = x; variables = x; functions = x; strings = x; files = x; enumerations = x }

  -- that of a kind; none for a tag that is not listed
  abbrev pub of_kind : Kind → SixTags T → Option T
  of_kind lines u = Some u.lines
  of_kind variables u = Some u.variables
  of_kind functions u = Some u.functions
  of_kind strings u = Some u.strings
  of_kind files u = Some u.files
  of_kind enumerations u = Some u.enumerations
  of_kind unknown u = None

  -- with `x` as that of its kind
  abbrev pub with_kind : Kind → T → SixTags T → SixTags T
  with_kind lines x u =
      record { lines = x; variables = u.variables; functions = u.functions; strings = u.strings; files = u.files; enumerations = u.enumerations }
  with_kind variables x u =
      record { lines = u.lines; variables = x; functions = u.functions; strings = u.strings; files = u.files; enumerations = u.enumerations }
  with_kind functions x u =
      record { lines = u.lines; variables = u.variables; functions = x; strings = u.strings; files = u.files; enumerations = u.enumerations }
  with_kind strings x u =
      record { lines = u.lines; variables = u.variables; functions = u.functions; strings = x; files = u.files; enumerations = u.enumerations }
  with_kind files x u =
      record { lines = u.lines; variables = u.variables; functions = u.functions; strings = u.strings; files = x; enumerations = u.enumerations }
  with_kind enumerations x u =
      record { lines = u.lines; variables = u.variables; functions = u.functions; strings = u.strings; files = u.files; enumerations = x }
  with_kind unknown x u = u
