-- `container::read_sections` meets its contract: the sections in turn, and the first refusal decides.
use Rattle.std.proofs.Common.{◌∙◌}
use Rattle.std.proofs.lemmas.Result.{err_from_is_err_and}
use Rattle.header.specs.Answers.{header_in}
use Rattle.container.proofs.Parts.{rows-found}
use Rattle.container.proofs.Loading.{tasks-refused, types-refused, constants-refused, code-refused, all_found}
use Rattle.container.proofs.read_sections.Goals as goal

pub returns-in_err-tasks : goal.returns-in_err-tasks
returns-in_err-tasks c =
    let e = err_from_is_err_and c.from_residual.result c.from_residual.ensures.1 in
    rw (e.1, e.2) (tasks-refused c.args.file.now (header_in c.args.header) c.requires c.in_err-tasks.ensures)

pub returns-in_err-types : goal.returns-in_err-types
returns-in_err-types c =
    let e = err_from_is_err_and c.from_residual-in_err-types.result c.from_residual-in_err-types.ensures.1 in
    rw (e.1, e.2) (types-refused c.args.file.now (header_in c.args.header) c.requires c.in_ok-tasks.ensures c.in_err-types.ensures)

pub returns-in_err-constants : goal.returns-in_err-constants
returns-in_err-constants c =
    let e = err_from_is_err_and c.from_residual-in_err-constants.result c.from_residual-in_err-constants.ensures.1 in
    rw (e.1, e.2) (constants-refused c.args.file.now (header_in c.args.header) c.requires c.in_ok-tasks.ensures c.in_ok-types.ensures c.in_err-constants.ensures)

pub returns-in_err-code_at : goal.returns-in_err-code_at
returns-in_err-code_at c =
    let e = err_from_is_err_and c.from_residual-in_err-code_at.result c.from_residual-in_err-code_at.ensures.1 in
    rw (e.1, e.2) (code-refused c.args.file.now (header_in c.args.header) c.requires c.in_ok-tasks.ensures c.in_ok-types.ensures c.in_ok-constants.ensures c.in_err-code_at.ensures)

pub returns : goal.returns
returns c =
    let f = c.args.file.now in
    let h = header_in c.args.header in
    all_found f h c.requires c.in_ok-tasks.ensures c.in_ok-types.ensures c.in_ok-constants.ensures c.in_ok-code_at.ensures c.debug_of-debug.ensures
    (c.in_force_of-in_force.ensures ∙ rows-found f h c.requires.short c.debug_of-debug.ensures)
