-- The claims of document 02's slips, slip by slip.
use Rattle.requests.specs.Claims.{AllClaims}
use Rattle.requests.proofs.BadPlace.{bad-places, bad-places-in-files, still-none}
use Rattle.requests.proofs.BadPlaceExamples.{bad-place-examples, loaded-example}
use Rattle.requests.proofs.RowsInForce.{six-tags, tables-of-rows, loaded-rows, rows-unread, counts-covered, rows-shift}
use Rattle.requests.proofs.RowsInForceExamples.{in-force-examples}

pub claims-hold : AllClaims
claims-hold hash =
    record {
      bad-places = bad-places;
      bad-places-in-files = bad-places-in-files;
      still-none = still-none hash;
      bad-place-examples = bad-place-examples;
      loaded-example = loaded-example hash;
      six-tags = six-tags;
      tables-of-rows = tables-of-rows;
      loaded-rows = loaded-rows hash;
      rows-unread = rows-unread;
      counts-covered = counts-covered;
      rows-shift = rows-shift hash;
      in-force-examples = in-force-examples hash;
    }
