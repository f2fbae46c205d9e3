-- The claims on the lookups in the debug section.
use Rattle.std.specs.Prelude.{ℕ, List, ◌≡◌}
use Rattle.std.proofs.Math.Option.{some}
use Rattle.reading.specs.Fault.{Fault}
use Rattle.reading.specs.Answer.{refused, found}
use Rattle.format.specs.Parts.{Place, cut, Inside}
use Rattle.format.specs.Debug.{Variable, FunctionName, SourceFile}
use Rattle.format.specs.Record.{DebugCounts, Container}
use Rattle.format.specs.Lookups.{EnumerationHead, debug_answers}
use Rattle.debug_entries.specs.Laws.{Lies, VariableLies, FunctionLies, FileLies}
use Rattle.debug_section.specs.Lookups.{debug_tables_at, answers_at, starts_at}

-- the names and paths that are answered lie in the section, and the section in the file
pub record NamesInside (f : List ℕ) (p : Place) : Type 0 where
  pub variable : (i : ℕ) (v : Variable Place) → (answers_at f p).variable i ≡ found v → Inside f p × VariableLies p.offset (cut f p) v
  pub function_name : (i : ℕ) (v : FunctionName Place) → (answers_at f p).function_name i ≡ found v → Inside f p × FunctionLies p.offset (cut f p) v
  pub source_file : (i : ℕ) (v : SourceFile Place) → (answers_at f p).source_file i ≡ found v → Inside f p × FileLies p.offset (cut f p) v
  pub enumeration : (i : ℕ) (v : EnumerationHead Place) → (answers_at f p).enumeration i ≡ found v → Inside f p × Lies p.offset (cut f p) v.named
  pub enumeration_value : (i j : ℕ) (v : Place) → (answers_at f p).enumeration_value i j ≡ found v → Inside f p × Lies p.offset (cut f p) v

pub record Laws : Type 0 where
  -- over a record that has debug these are the format's lookups
  pub answers : (f : List ℕ) (r : Container) (c : DebugCounts) → r.debug ≡ some c → debug_answers f r ≡ answers_at f r.header.directory.debug
  -- the places of the tables are refused exactly as the tables are
  pub refused-alike : (f : List ℕ) (p : Place) (e : Fault) → starts_at f p ≡ refused e → debug_tables_at f p ≡ refused e
  pub found_alike : (f : List ℕ) (p : Place) (e : Fault) → debug_tables_at f p ≡ refused e → starts_at f p ≡ refused e
  pub names-inside : (f : List ℕ) (p : Place) → NamesInside f p
