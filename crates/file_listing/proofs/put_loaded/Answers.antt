-- `file_listing::put_loaded` meets its contract: the texts of the container and its tables, one behind the other.
use mathlib.Core.Path.{◌∙◌}
use mathlib.Core.List.{[], ◌∷◌}
use Rattle.lent.proofs.Fitting.{puts-at, puts-free, wrote-free}
use Rattle.record.specs.Answers.{container_in}
use Rattle.listing.specs.Lines.{end_line}
use Rattle.table_lines.specs.Tables.{tasks_text, programs_text, constants_text, functions_text}
use Rattle.table_lines.specs.Whole.{types_text, debug_text}
use Rattle.file_listing.proofs.Joining.{next-put, full}
use Rattle.file_listing.proofs.put_loaded.Goals as goal

pub returns-in_err-n : goal.returns-in_err-n
returns-in_err-n c =
    let a = c.args in
    let f = a.file.now in
    let r = container_in a.c in
    rw c.from_residual.ensures (full (tasks_text f r ∷ programs_text f r ∷ types_text f r ∷ constants_text f r ∷ functions_text f r ∷ debug_text f r ∷ end_line ∷ []) (puts-free c.in_err-n.ensures))

pub returns-in_err-n-2 : goal.returns-in_err-n-2
returns-in_err-n-2 c =
    let a = c.args in
    let f = a.file.now in
    let r = container_in a.c in
    let w1 = puts-at c.in_ok-n.ensures in
    rw c.from_residual-in_err-n-2.ensures (full (programs_text f r ∷ types_text f r ∷ constants_text f r ∷ functions_text f r ∷ debug_text f r ∷ end_line ∷ []) (wrote-free w1 c.in_err-n-2.ensures))

pub returns-in_err-n-3 : goal.returns-in_err-n-3
returns-in_err-n-3 c =
    let a = c.args in
    let f = a.file.now in
    let r = container_in a.c in
    let w1 = puts-at c.in_ok-n.ensures in
    let w2 = next-put w1 c.in_ok-n-2.ensures in
    rw c.from_residual-in_err-n-3.ensures (full (types_text f r ∷ constants_text f r ∷ functions_text f r ∷ debug_text f r ∷ end_line ∷ []) (wrote-free w2 c.in_err-n-3.ensures))

pub returns-in_err-n-4 : goal.returns-in_err-n-4
returns-in_err-n-4 c =
    let a = c.args in
    let f = a.file.now in
    let r = container_in a.c in
    let w1 = puts-at c.in_ok-n.ensures in
    let w2 = next-put w1 c.in_ok-n-2.ensures in
    let w3 = next-put w2 c.in_ok-n-3.ensures in
    rw c.from_residual-in_err-n-4.ensures (full (constants_text f r ∷ functions_text f r ∷ debug_text f r ∷ end_line ∷ []) (wrote-free w3 c.in_err-n-4.ensures))

pub shape_of-out-in_err-n-5 : goal.shape_of-out-in_err-n-5
shape_of-out-in_err-n-5 c = c.put_constants.auto.out ∙ c.put_types.auto.out ∙ c.put_programs.auto.out ∙ c.put_tasks.auto.out ∙ c.put_container.auto.out

pub returns-in_err-n-5 : goal.returns-in_err-n-5
returns-in_err-n-5 c =
    let a = c.args in
    let f = a.file.now in
    let r = container_in a.c in
    let w1 = puts-at c.in_ok-n.ensures in
    let w2 = next-put w1 c.in_ok-n-2.ensures in
    let w3 = next-put w2 c.in_ok-n-3.ensures in
    let w4 = next-put w3 c.in_ok-n-4.ensures in
    rw c.from_residual-in_err-n-5.ensures (full (functions_text f r ∷ debug_text f r ∷ end_line ∷ []) (wrote-free w4 c.in_err-n-5.ensures))

pub shape_of-out-in_err-n-6 : goal.shape_of-out-in_err-n-6
shape_of-out-in_err-n-6 c = c.put_functions.auto.out ∙ c.put_constants.auto.out ∙ c.put_types.auto.out ∙ c.put_programs.auto.out ∙ c.put_tasks.auto.out ∙ c.put_container.auto.out

pub returns-in_err-n-6 : goal.returns-in_err-n-6
returns-in_err-n-6 c =
    let a = c.args in
    let f = a.file.now in
    let r = container_in a.c in
    let w1 = puts-at c.in_ok-n.ensures in
    let w2 = next-put w1 c.in_ok-n-2.ensures in
    let w3 = next-put w2 c.in_ok-n-3.ensures in
    let w4 = next-put w3 c.in_ok-n-4.ensures in
    let w5 = next-put w4 c.in_ok-n-5.ensures in
    rw c.from_residual-in_err-n-6.ensures (full (debug_text f r ∷ end_line ∷ []) (wrote-free w5 c.in_err-n-6.ensures))

pub shape_of-out-in_err-n-7 : goal.shape_of-out-in_err-n-7
shape_of-out-in_err-n-7 c = c.put_debug_text.auto.out ∙ c.put_functions.auto.out ∙ c.put_constants.auto.out ∙ c.put_types.auto.out ∙ c.put_programs.auto.out ∙ c.put_tasks.auto.out ∙ c.put_container.auto.out

pub returns-in_err-n-7 : goal.returns-in_err-n-7
returns-in_err-n-7 c =
    let a = c.args in
    let f = a.file.now in
    let r = container_in a.c in
    let w1 = puts-at c.in_ok-n.ensures in
    let w2 = next-put w1 c.in_ok-n-2.ensures in
    let w3 = next-put w2 c.in_ok-n-3.ensures in
    let w4 = next-put w3 c.in_ok-n-4.ensures in
    let w5 = next-put w4 c.in_ok-n-5.ensures in
    let w6 = next-put w5 c.in_ok-n-6.ensures in
    rw c.from_residual-in_err-n-7.ensures (full (end_line ∷ []) (wrote-free w6 c.in_err-n-7.ensures))

pub shape_of-out : goal.shape_of-out
shape_of-out c = c.put_end.auto.out ∙ c.put_debug_text.auto.out ∙ c.put_functions.auto.out ∙ c.put_constants.auto.out ∙ c.put_types.auto.out ∙ c.put_programs.auto.out ∙ c.put_tasks.auto.out ∙ c.put_container.auto.out

pub returns : goal.returns
returns c =
    let w1 = puts-at c.in_ok-n.ensures in
    let w2 = next-put w1 c.in_ok-n-2.ensures in
    let w3 = next-put w2 c.in_ok-n-3.ensures in
    let w4 = next-put w3 c.in_ok-n-4.ensures in
    let w5 = next-put w4 c.in_ok-n-5.ensures in
    let w6 = next-put w5 c.in_ok-n-6.ensures in
    let w7 = next-put w6 c.in_ok-n-7.ensures in
    wrote-free w7 (puts-free c.put_end.ensures)
