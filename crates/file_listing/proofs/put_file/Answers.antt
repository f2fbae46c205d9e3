-- `file_listing::put_file` meets its contract: the text of each arm is the listing of the file.
use Rattle.lent.proofs.Fitting.{puts-free, free-as}
use Rattle.file_listing.proofs.Listing.{refused-listing, loaded-listing}
use Rattle.file_listing.proofs.put_file.Goals as goal

pub returns-in-Err : goal.returns-in-Err
returns-in-Err c = free-as (refused-listing c.args.file.now c.in-Err.ensures) (puts-free c.put_refused.ensures)

pub returns-in-Ok : goal.returns-in-Ok
returns-in-Ok c = free-as (loaded-listing c.args.file.now c.in-Ok.ensures) c.put_loaded.ensures
