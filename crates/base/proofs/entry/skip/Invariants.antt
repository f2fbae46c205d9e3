-- `base::entry::skip` meets its contract: the loop keeps `Passed`, and each need is one of its laws.
use Rattle.std.proofs.Common.{length}
use Rattle.std.specs.Prelude.{min}
use Rattle.reading.proofs.Passing.{Passed}
use Rattle.base.specs.Cut.{place_of}
use Rattle.base.proofs.entry.skip.Given as goal

abbrev pub invariant-loop : goal.invariant-loop
invariant-loop g l = Passed (g.E.Entry.reader (place_of l.cut)) l.cut.bytes.now l.n (min l.at (length l.cut.bytes.now)) l.counter l.p
