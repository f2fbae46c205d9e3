-- `SourceFileEntry::read` meets its contract: the hash behind the path.
use Rattle.std.proofs.Common.{arith}
use Rattle.debug_entries.proofs.Entries.{file_read}
use Rattle.debug_entries.proofs.source_files.SourceFileEntryEntry.read.Goals as goal

pub returns : goal.returns
returns c = file_read _ _ c.args.at _ _ c.in_ok-path.ensures _ (omega arith) c.digest_at-content_hash.ensures
