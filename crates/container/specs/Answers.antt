-- What the code's answers mean.
use Rattle.std.specs.Prelude.{ℕ, List}
use Rattle.format.specs.Load as load
use Rattle.format.specs.Record as format
use Rattle.debug_text.specs.Answers.{debug_fault_of}
use Rattle.debug_tables.specs.Answers.{debug_counts_in}
use Rattle.container.specs.declared.DebugState.{DebugState}
use Rattle.container.specs.declared.DebugState.TheVariants as state

-- of a file whose debug section is `s`
abbrev pub debug_state_in : List ℕ → DebugState → load.DebugState format.DebugCounts
debug_state_in s state.Empty = load.empty
debug_state_in s state.Outside = load.outside
debug_state_in s state.HashDiffers = load.hash_differs
debug_state_in s (state.Unreadable e) = load.unreadable (debug_fault_of s e)
debug_state_in s (state.Read c) = load.read (debug_counts_in c)
