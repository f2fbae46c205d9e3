-- `file_listing::put_file_for_program` meets its contract: the programs' limit decides, and then the library.
use mathlib.Core.Path.{sym, ap}
use Rattle.format.specs.Load.{load}
use Rattle.format.proofs.ProgramLimit.{within-limit, above-limit}
use Rattle.blake3.specs.Blake3.{blake3}
use Rattle.lent.proofs.Fitting.{puts-free, free-as}
use Rattle.listing.specs.Listing.{listing_of}
use borrow.Author.Rules.{rules}
use Rattle.file_listing.proofs.put_file_for_program.Goals as goal

pub returns-then-file-gt-PROGRAM_LIMIT : goal.returns-then-file-gt-PROGRAM_LIMIT
returns-then-file-gt-PROGRAM_LIMIT c =
    let f = c.args.file.now in
    free-as (ap listing_of (sym (above-limit f (load blake3 f) (search rules)))) (puts-free c.put_refused.ensures)

pub returns : goal.returns
returns c =
    let f = c.args.file.now in
    free-as (ap listing_of (sym (within-limit f (load blake3 f) (search rules)))) c.put_file.ensures
