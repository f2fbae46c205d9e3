-- The order of refusals in lookups.
use Prim.Native.Nat.{ℕ, ◌<◌, ◌≤◌}
use mathlib.Core.Path.{◌≡◌}
use mathlib.Core.List.{List}
use mathlib.Core.Option.{Option, none, some}
use lib.ListN.{length}
use borrow.Author.Tests.{le-leb, lt-leb}
use Rattle.reading.specs.Answer.{refused}
use Rattle.format.specs.Faults.{too_long}
use Rattle.format.specs.Parts.{limit, Place, by_place}
use Rattle.format.specs.Integrity.{section_in}
use Rattle.format.specs.Load.{read_in}
use Rattle.format.specs.Record.{TypeCounts, DebugCounts, Container}
use Rattle.format.specs.Lookups.{read_at, types_by, debug_at, debug_by, debug_in}
use Rattle.format.specs.Order.{LimitFirst, AbsenceThen, PlaceThen, SectionThen, Order}
use Rattle.format.proofs.Places.{is-inside, outside}

types-limit : (f : List ℕ) (p : Place) (t : Option TypeCounts) → limit < length f → types_by f p t ≡ refused too_long
unfolding read_at
types-limit f p none h = rw (lt-leb (length f) limit h)
types-limit f p (some c) h = rw (lt-leb (length f) limit h)

debug-limit : (f : List ℕ) (p : Place) (d : Option DebugCounts) → limit < length f → debug_by (by_place p) f p d ≡ refused too_long
unfolding debug_at
debug-limit f p none h = rw (lt-leb (length f) limit h)
debug-limit f p (some c) h = rw (lt-leb (length f) limit h)

limit-first : (f : List ℕ) (r : Container) → limit < length f → LimitFirst f r
unfolding read_at debug_in
limit-first f r h =
    let e = lt-leb (length f) limit h in
    let d = r.header.directory in
    record { tasks = rw e; types = types-limit f d.types r.types h; constants = rw e; code = rw e; debug = debug-limit f d.debug r.debug h }

module _ (f : List ℕ) (r : Container) (h : length f ≤ limit) where
  absence-then : AbsenceThen f r
  unfolding debug_in
  absence-then =
      let e = le-leb (length f) limit h in
      record { types = λ n. rw (n, e); debug = λ n. rw (n, e) }

  place-then : PlaceThen f r
  unfolding read_at read_in section_in debug_in debug_at
  place-then =
      let e = le-leb (length f) limit h in
      let d = r.header.directory in
      record {
        tasks = λ k. rw (e, outside f d.tasks k);
        types = λ c s k. rw (s, e, outside f d.types k);
        constants = λ k. rw (e, outside f d.constants k);
        code = λ k. rw (e, outside f d.code k);
        debug = λ c s k. rw (s, e, outside f d.debug k);
      }

  section-then : SectionThen f r
  unfolding read_at read_in section_in debug_in debug_at
  section-then =
      let e = le-leb (length f) limit h in
      let d = r.header.directory in
      record {
        tasks = λ i. rw (e, is-inside f d.tasks i);
        types = λ c s i. rw (s, e, is-inside f d.types i);
        constants = λ i. rw (e, is-inside f d.constants i);
        code = λ i. rw (e, is-inside f d.code i);
        debug = λ c s i. rw (s, e, is-inside f d.debug i);
      }

pub order : Order
order = record { limit-first = limit-first; absence-then = absence-then; place-then = place-then; section-then = section-then }
