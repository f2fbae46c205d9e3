-- `ProgramInstanceEntry::read` meets its contract: too few bytes, or the program that stands there.
use Rattle.std.proofs.Common.{arith}
use Rattle.base.proofs.Entries.{read_short, read_ok}
use Rattle.format.proofs.Widths.{program-fixed}
use Rattle.task_table.proofs.ProgramInstanceEntryEntry.read.Goals as goal

pub returns-then-left-lt-PROGRAM_INSTANCE_ENTRY_SIZE : goal.returns-then-left-lt-PROGRAM_INSTANCE_ENTRY_SIZE
returns-then-left-lt-PROGRAM_INSTANCE_ENTRY_SIZE c = read_short _ c.args.cut.bytes.now program-fixed.short c.args.at (omega arith)

pub returns : goal.returns
returns c = read_ok _ _ c.args.at _ _ (omega arith) c.program_at.ensures
