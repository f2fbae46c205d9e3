-- `file_listing::put_on_page` meets its contract: what a program lists always fits the page.
use Prim.Native.Nat.{ℕ, ◌+◌, ◌≤◌}
use mathlib.Core.List.{List}
use native.Mathlib.Omega.{arith}
use lib.ListN.{length}
use Rattle.std.specs.Prelude.{Option as Maybe, Some, None, unwrap_or}
use Rattle.blake3.specs.Blake3.{blake3}
use Rattle.lent.specs.Output.{Wrote, PutsRestFree}
use Rattle.lent.proofs.Fitting.{free-full, free-at}
use Rattle.listing_room.proofs.Laws.{laws}
use Rattle.file_listing.proofs.put_on_page.Goals as goal

always : {b t a : List ℕ} {at : ℕ} (r : Maybe ℕ) → at + length t ≤ length b → PutsRestFree b at t a r → Wrote b at t a (unwrap_or r 0)
always None h p = let l = free-full p in absurd (omega arith)
always (Some n) h p = free-at p

pub returns-clause-text : goal.returns-clause-text
returns-clause-text c =
    let fits = (laws blake3).fits c.args.file.now (λ i. omega (arith, c.type_inv.file i)) in
    rw c.unwrap_or.ensures (always _ (omega arith) c.put_file_for_program.ensures)
