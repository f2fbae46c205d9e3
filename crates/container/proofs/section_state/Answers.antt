-- `container::section_state` meets its contract: the hash decides, and then the section's reader.
use Rattle.std.proofs.Common.{sym, ◌∙◌}
use Rattle.format.specs.Parts.{by_bytes}
use Rattle.format.specs.Debug.{debug_tables}
use Rattle.container.proofs.Parts.{state-fault, state-counted}
use Rattle.container.proofs.section_state.Goals as goal

pub returns-in-Ok : goal.returns-in-Ok
returns-in-Ok c = rw (sym c.debug_hash_matches.ensures ∙ c.if-debug_hash_matches.true) (state-counted (debug_tables by_bytes c.args.section.now) c.in-Ok.ensures)

pub returns-in-Err : goal.returns-in-Err
returns-in-Err c = rw (sym c.debug_hash_matches.ensures ∙ c.if-debug_hash_matches.true) (state-fault (debug_tables by_bytes c.args.section.now) c.in-Err.ensures)

pub returns : goal.returns
returns c = rw (sym c.debug_hash_matches.ensures ∙ c.if-debug_hash_matches.false)
