-- `container::debug_of` meets its contract: only tables that were read are kept.
use Rattle.std.proofs.Common.{◌∙◌}
use Rattle.format.specs.Parts.{cut}
use Rattle.header.specs.Answers.{header_in}
use Rattle.container.proofs.Parts.{debug-kept, unread}
use Rattle.container.proofs.debug_of.Goals as goal

pub returns-in-Read : goal.returns-in-Read
returns-in-Read c = debug-kept c.args.file.now (header_in c.args.header) c.requires c.in-Read.ensures

pub returns-in_default : goal.returns-in_default
returns-in_default c =
    let h = header_in c.args.header in
    unread (cut c.args.file.now h.directory.debug) c.debug_state.result c.in_default.not-Read ∙ debug-kept c.args.file.now h c.requires c.debug_state.ensures
