-- `text::put_bytes_line` meets its contract: the text is written if it fits.
use native.Mathlib.Omega.{arith}
use Rattle.lent.proofs.Writing.{wrote_then}
use Rattle.text.proofs.Parts.{bytes_line_length, hex_least, hex_most}
use Rattle.lent.proofs.Fitting.{puts_none, puts-wrote}
use Rattle.text.proofs.put_bytes_line.Goals as goal

pub returns-then-out-bytes : goal.returns-then-out-bytes
returns-then-out-bytes c =
    let a = c.args in
    puts_none _ _ _ (omega (arith, bytes_line_length a.word.now a.ns.now a.bytes.now, hex_least a.bytes.now))

pub overflow_add-end : goal.overflow_add-end
overflow_add-end c = omega (arith, hex_most c.args.bytes.now 18446744073709551613 (omega arith) (omega arith))

pub returns : goal.returns
returns c = puts-wrote (wrote_then (wrote_then c.put_ended-next.ensures c.put_hex_or_dash-next.ensures) c.put.ensures)
