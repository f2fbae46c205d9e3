-- `hasher::Hasher::take_whole` meets its contract. Assumes nothing.
use Prim.Native.Nat.{◌*◌}
use lib.ListN.{length}
use borrow.Author.Tests.{lt-ltb, le-ltb}
use Rattle.compression.specs.Sizes.{chunk_len}
use borrow.Author.Rules.{rules}
use Rattle.hasher.proofs.Hasher.take_whole.Goals as goal

pub returns-then-s-gt-FOUR_CHUNKS : goal.returns-then-s-gt-FOUR_CHUNKS
returns-then-s-gt-FOUR_CHUNKS c =
    let a = c.args in
    rw (lt-ltb (4 * chunk_len) (length a.s.now) (search rules)) c.take_chunks.ensures

pub returns : goal.returns
returns c =
    let a = c.args in
    rw (le-ltb (4 * chunk_len) (length a.s.now) (search rules)) c.take_chunk.ensures
