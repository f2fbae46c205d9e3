-- `integrity::content_hash` meets its contract: the digest of the hashed string.
use Rattle.std.proofs.Common.{sym, ◌∙◌}
use Rattle.integrity.proofs.Strings.{hash_found}
use Rattle.integrity.proofs.content_hash.Goals as goal

pub returns : goal.returns
returns c =
    c.content_hash_of.ensures
    ∙ rw (c.bytes_of-4.ensures, c.bytes_of-3.ensures, c.bytes_of-2.ensures, c.bytes_of.ensures, c.header_of-header.ensures)
    (hash_found _ _ c.if-file-gt-FILE_LIMIT.false c.if-file-lt-HEADER_SIZE.false (sym c.all_hashable.ensures ∙ c.if-not-all_hashable.false))
