use Rattle.std.proofs.Common.{◌*◌, ◌∙◌, arith, rules}
use Rattle.base.proofs.Bytes.{written_none, written_word, written_all, word_in_bytes}
use Rattle.base.proofs.digest.Digest.bytes.Goals as goal

pub loop-i-init : goal.loop-i-init
loop-i-init c = written_none c.args.self.0 (search rules)

pub loop-i-preserved : goal.loop-i-preserved
loop-i-preserved c =
    let l = c.loop-i in
    written_word c.args.self.0 l.b l.i _ (search rules) (omega arith)
    (c.copy_from_slice.ensures.after ∙ c.to_le_bytes.ensures ∙ word_in_bytes _) l.invariant

pub returns : goal.returns
returns c = let l = c.loop-i in written_all c.args.self.0 l.b (4 * l.i) (search rules) l.invariant
