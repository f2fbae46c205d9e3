-- What the lookups in the debug section answer, over a file and the section's place `p` in it (document 01: "A place not in the file
-- behind the header gives 4, an unreadable section its own refusal, both before 11 to 17 and 29; for debug either gives 15").
use Rattle.std.specs.Prelude.{ℕ, List, leb, length}
use Rattle.reading.specs.Answer.{Got, found, ◌>>=◌, ◌>>◌, need, item_of}
use Rattle.format.specs.Faults.{too_long, no_debug}
use Rattle.format.specs.Parts.{limit, Place, cut, is_inside, by_place}
use Rattle.format.specs.Debug.{Tables}
use Rattle.format.specs.Lookups.{or_no_debug, debug_at, DebugAnswers, debug_answers_of}
use Rattle.base.specs.Section.{opened}
use Rattle.debug_entries.specs.Answers.{EnumerationWithValues, with_values}
use Rattle.debug_tables.specs.Starts.{debug_starts}
use Rattle.debug_tables.specs.SixTags.{DebugTables}

-- the section's tables, names and paths by their place in the file: 10, then 15
abbrev pub debug_tables_at : List ℕ → Place → Got (Tables Place)
debug_tables_at f p = debug_at (by_place p) f p

-- every lookup in them
abbrev pub answers_at : List ℕ → Place → DebugAnswers Place
answers_at f p = debug_answers_of (debug_tables_at f p)

-- the section's part of the file
unfoldable pub debug_part : List ℕ → Place → Got Place
debug_part f p = do
  need (leb (length f) limit) too_long
  need (is_inside f p) no_debug
  found p

-- the same with its bytes
abbrev pub debug_cut : List ℕ → Place → Got (Place × List ℕ)
debug_cut f p = debug_part f p >>= λ q. found (opened f q)

-- where the tables in force stand in it: walks start there
unfoldable pub starts_at : List ℕ → Place → Got DebugTables
starts_at f p = do
  q ← debug_part f p
  or_no_debug (item_of (debug_starts (cut f q)))

-- the section's bytes, and where the tables in force stand in them
abbrev pub opened_at : List ℕ → Place → Got ((Place × List ℕ) × DebugTables)
opened_at f p = do
  c ← debug_cut f p
  u ← or_no_debug (item_of (debug_starts c.1))
  found (c, u)

-- an enumeration with the table of its values' names
abbrev pub enumeration_at : List ℕ → Place → ℕ → Got EnumerationWithValues
enumeration_at f p i = (answers_at f p).enumeration i >>= λ h. found (with_values p.offset h)
