-- `FuncEntry::read` meets its contract: too few bytes, or the function that stands there.
use Rattle.std.proofs.Common.{arith}
use Rattle.base.proofs.Entries.{read_short, read_ok}
use Rattle.format.proofs.Widths.{function-fixed}
use Rattle.code_section.proofs.FuncEntryEntry.read.Goals as goal

pub returns-then-left-lt-FUNC_ENTRY_SIZE : goal.returns-then-left-lt-FUNC_ENTRY_SIZE
returns-then-left-lt-FUNC_ENTRY_SIZE c = read_short _ c.args.cut.bytes.now function-fixed.short c.args.at (omega arith)

pub returns : goal.returns
returns c = read_ok _ _ c.args.at _ _ (omega arith) c.entry_at.ensures
