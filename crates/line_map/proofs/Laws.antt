-- The claims hold.
use mathlib.Core.Path.{refl}
use mathlib.Core.Option.{none}
use borrow.Author.Tests.{leb-true, leb-false}
use Rattle.reading.proofs.Left.{stays-local, walk-is-table}
use Rattle.format.specs.Debug.{line}
use Rattle.format.proofs.Readers.{local-line}
use Rattle.line_map.specs.Laws.{Laws}
use Rattle.line_map.proofs.Entries.{lines-read, lines-short}
use Rattle.line_map.proofs.Choosing.{choice-is-best}

pub laws : Laws
laws =
    record {
      fits = λ s at n h. lines-read s at n (leb-true _ _ h);
      short = λ s at n h. lines-short s at n (leb-false _ _ h);
      choice = λ f q es h. choice-is-best f q none es h;
      walk = λ s at n. walk-is-table s line (stays-local s local-line) n (record { at = at; count = n }) refl;
    }
