-- `container::read_from` meets its contract: length, header and content hash decide, and then the sections.
use Rattle.std.proofs.lemmas.Result.{err_from_is_err_and}
use Rattle.container.proofs.Loading.{too-long, header_refused, content-refused, are-accepted}
use Rattle.container.proofs.read_from.Goals as goal

pub returns-then-file-gt-FILE_LIMIT : goal.returns-then-file-gt-FILE_LIMIT
returns-then-file-gt-FILE_LIMIT c = too-long c.args.file.now c.if-file-gt-FILE_LIMIT.true

pub read_sections-requires : goal.read_sections-requires
read_sections-requires c = are-accepted c.args.file.now c.if-file-gt-FILE_LIMIT.false c.in_ok-header.ensures c.in_ok-check_content_hash.ensures

pub returns-in_err-header : goal.returns-in_err-header
returns-in_err-header c =
    let e = err_from_is_err_and c.from_residual.result c.from_residual.ensures.1 in
    rw (e.1, e.2) (header_refused c.args.file.now c.if-file-gt-FILE_LIMIT.false c.in_err-header.ensures)

pub returns-in_err-check_content_hash : goal.returns-in_err-check_content_hash
returns-in_err-check_content_hash c =
    let e = err_from_is_err_and c.from_residual-in_err-check_content_hash.result c.from_residual-in_err-check_content_hash.ensures.1 in
    rw (e.1, e.2) (content-refused c.args.file.now c.if-file-gt-FILE_LIMIT.false c.in_ok-header.ensures c.in_err-check_content_hash.ensures)
