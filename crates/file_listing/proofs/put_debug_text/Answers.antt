-- `file_listing::put_debug_text` meets its contract: the counts, then the lines.
use mathlib.Core.List.{[], ◌∷◌}
use Rattle.lent.proofs.Fitting.{puts-at, puts-free, wrote-free}
use Rattle.record.specs.Answers.{container_in}
use Rattle.table_lines.specs.Tables.{lines_text}
use Rattle.file_listing.proofs.Joining.{full}
use Rattle.file_listing.proofs.put_debug_text.Goals as goal

pub returns-in_err-n : goal.returns-in_err-n
returns-in_err-n c =
    let a = c.args in
    let f = a.file.now in
    let r = container_in a.c in
    rw c.from_residual.ensures (full (lines_text f r ∷ []) (puts-free c.in_err-n.ensures))

pub returns : goal.returns
returns c =
    let w1 = puts-at c.in_ok-n.ensures in
    wrote-free w1 c.put_lines.ensures
