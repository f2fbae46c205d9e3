-- `container::debug_state` meets its contract: size and place decide, then the section's hash and reader.
use Rattle.header.specs.Answers.{header_in}
use Rattle.container.specs.Answers.{debug_state_in}
use Rattle.container.proofs.Parts.{debug-empty, debug-outside, debug-inside}
use Rattle.container.proofs.debug_state.Goals as goal

pub returns-then-debug-eq0 : goal.returns-then-debug-eq0
returns-then-debug-eq0 c = debug-empty c.args.file.now (header_in c.args.header) c.if-debug-eq0.true

pub returns-in-Err : goal.returns-in-Err
returns-in-Err c = debug-outside c.args.file.now (header_in c.args.header) _ c.if-debug-eq0.false c.in-Err.ensures

pub returns-in-Ok : goal.returns-in-Ok
returns-in-Ok c = debug-inside c.args.file.now (header_in c.args.header) _ (λ s. debug_state_in s c.section_state.result) c.if-debug-eq0.false c.in-Ok.ensures c.section_state.ensures
