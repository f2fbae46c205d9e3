-- `LineMapEntry::read` meets its contract: too few bytes, or the entry that stands there.
use Rattle.line_map.proofs.Entries.{line-out, line-in}
use Rattle.line_map.proofs.LineMapEntryEntry.read.Goals as goal

pub returns-in_default : goal.returns-in_default
returns-in_default c = line-out _ c.args.at _ c.min.ensures c.in_default.ensures.cases

pub returns : goal.returns
returns c = line-in c.args.cut.bytes.now c.args.at _ c.min.ensures _ c.in-Some.ensures.cases.enough c.in-Some.ensures.cases.same c.entry_of.ensures
