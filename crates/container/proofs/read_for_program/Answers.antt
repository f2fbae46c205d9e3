-- `container::read_for_program` meets its contract: the programs' limit decides, and then the library.
use mathlib.Core.Path.{sym, ◌∙◌}
use Rattle.format.specs.Record.{read_from}
use Rattle.format.proofs.ProgramLimit.{within-limit, above-limit}
use Rattle.blake3.specs.Blake3.{blake3}
use Rattle.container.proofs.read_for_program.Goals as goal

pub returns-then-file-gt-PROGRAM_LIMIT : goal.returns-then-file-gt-PROGRAM_LIMIT
returns-then-file-gt-PROGRAM_LIMIT c = let f = c.args.file.now in sym (above-limit f (read_from blake3 f) c.if-file-gt-PROGRAM_LIMIT.true)

pub returns : goal.returns
returns c =
    let f = c.args.file.now in
    c.read_from.ensures ∙ sym (within-limit f (read_from blake3 f) c.if-file-gt-PROGRAM_LIMIT.false)
