-- `debug_tables::skip_entries` meets its contract: one arm for each kind.
use Rattle.std.proofs.Common.{refl, ◌∙◌}
use Rattle.base.proofs.Entries.{or_there}
use Rattle.debug_text.specs.Answers.{debug_fault_of}
use Rattle.debug_tables.proofs.Payloads.{passed_lines, passed_variables, passed_functions, passed_strings, passed_files, passed_enumerations, passed_none}
use Rattle.debug_tables.proofs.skip_entries.Goals as goal

pub returns-in-Lines : goal.returns-in-Lines
returns-in-Lines c = rw (c.in-Lines.is, c.ok_or.ensures.value) (or_there (debug_fault_of _) _ refl _ ∙ c.pass.ensures ∙ passed_lines _ _ _)

pub returns-in-Variables : goal.returns-in-Variables
returns-in-Variables c = rw c.in-Variables.is (c.skip.ensures ∙ passed_variables _ _ _ _)

pub returns-in-Functions : goal.returns-in-Functions
returns-in-Functions c = rw c.in-Functions.is (c.skip-in-Functions.ensures ∙ passed_functions _ _ _ _)

pub returns-in-Strings : goal.returns-in-Strings
returns-in-Strings c = rw (c.in-Strings.is, c.ok_or-in-Strings.ensures.value) (or_there (debug_fault_of _) _ refl _ ∙ c.pass-in-Strings.ensures ∙ passed_strings _ _ _)

pub returns-in-Files : goal.returns-in-Files
returns-in-Files c = rw c.in-Files.is (c.skip-in-Files.ensures ∙ passed_files _ _ _ _)

pub returns-in-Enumerations : goal.returns-in-Enumerations
returns-in-Enumerations c = rw c.in-Enumerations.is (c.skip-in-Enumerations.ensures ∙ passed_enumerations _ _ _ _ _)

pub returns-in-Unknown : goal.returns-in-Unknown
returns-in-Unknown c = rw c.in-Unknown.is (passed_none c.args.cut.bytes.now c.args.n c.args.at c.requires)
