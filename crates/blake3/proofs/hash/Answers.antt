-- `blake3::hash` meets its contract: over the limit the refusal, otherwise the digest, directly for one chunk, and for more by the hasher's law for
use mathlib.Core.Path.{ap, ◌∙◌}
use native.Mathlib.Omega.{arith}
use Rattle.reading.specs.Numbers.{word_bytes}
use Rattle.reading.specs.Answer.{found}
use Rattle.blake3.specs.Blake3.{finish_asked}
use Rattle.blake3.proofs.Whole.{over, within, whole}
use Rattle.blake3.proofs.hash.Goals as goal

pub returns-then-bytes-gt-HASH_LIMIT : goal.returns-then-bytes-gt-HASH_LIMIT
returns-then-bytes-gt-HASH_LIMIT c = over _ (omega arith)

pub returns-then-bytes-le-CHUNK_LEN : goal.returns-then-bytes-le-CHUNK_LEN
returns-then-bytes-le-CHUNK_LEN c =
    let bs = c.args.bytes.now in
    ap found (c.from_words.ensures ∙ ap word_bytes c.one_chunk.ensures) ∙ within bs (omega arith)

pub returns : goal.returns
returns c = c.finish.ensures ∙ ap finish_asked (cc) ∙ whole c.args.bytes.now
