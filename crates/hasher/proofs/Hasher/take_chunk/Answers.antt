-- `hasher::Hasher::take_chunk` meets its contract. Assumes nothing.
use Rattle.hasher.specs.Whole.{chunks_done}
use Rattle.hasher.proofs.Hasher.take_chunk.Goals as goal

pub returns : goal.returns
unfolding chunks_done
returns c = cc (c.chunk_done.ensures, c.chunk_value.ensures, c.counter.ensures)
