-- Why reading stops.
use Rattle.std.specs.Prelude.{ℕ, List, []}

pub data Fault : Type 0 where
  -- a refusal, as document 01's table has it: its number, and the values that it names
  refusal : ℕ → List ℕ → Fault
  -- a text that is not UTF-8: how many bytes of the section are left from its first bad byte on
  bad_text : ℕ → Fault

-- the section ends before an announced item
abbrev pub short_input : Fault
short_input = refusal 1 []
