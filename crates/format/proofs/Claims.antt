-- The claims hold.
use Rattle.format.specs.Claims.{AllClaims}
use Rattle.format.proofs.Refusals.{refusals}
use Rattle.format.proofs.Order.{order}
use Rattle.format.proofs.DebugStates.{debug-states, counted-states}
use Rattle.format.proofs.PlacesHold.{places-hold}
use Rattle.format.proofs.OwnRecord.{own-record}
use Rattle.format.proofs.RunSide.{premises, run-side-independence, run-side-of-records}
use Rattle.format.proofs.UnknownTables.{unknown-tables, unknown-tables-of-records}
use Rattle.format.proofs.Layouts.{layouts, mill-counts, hash-limit}
use Rattle.format.proofs.ProgramLimit.{program-limit}
use Rattle.format.proofs.Indexing.{indexing}
use Rattle.format.proofs.LineFound.{line-found}
use Rattle.format.proofs.Examples.{first-half-not-vacuous, types-premise-needed, empty-code-place-needed, content-hash-needed, second-half-not-vacuous, cases, wrong-turns}

pub claims-hold : AllClaims
claims-hold hash =
    record {
      refusals = refusals hash;
      order = order;
      debug-states = debug-states hash;
      counted-states = counted-states;
      places-hold = places-hold;
      own-record = own-record hash;
      indexing = indexing;
      line-found = line-found;
      premises = premises;
      run-side-independence = run-side-independence hash;
      run-side-of-records = run-side-of-records hash;
      unknown-tables = unknown-tables hash;
      unknown-tables-of-records = unknown-tables-of-records hash;
      first-half-not-vacuous = first-half-not-vacuous hash;
      types-premise-needed = types-premise-needed hash;
      empty-code-place-needed = empty-code-place-needed hash;
      content-hash-needed = content-hash-needed hash;
      second-half-not-vacuous = second-half-not-vacuous hash;
      cases = cases hash;
      wrong-turns = wrong-turns hash;
      layouts = layouts;
      mill-counts = mill-counts hash;
      hash-limit = hash-limit;
      program-loads = program-limit;
      program-reads = program-limit;
    }
