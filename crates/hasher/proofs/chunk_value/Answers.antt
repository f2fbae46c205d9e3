-- `hasher::chunk_value` meets its contract: the blocks before the last, and the last.
use Rattle.std.proofs.Common.{◌∙◌}
use Rattle.compression.specs.Sizes.{last_block}
use Rattle.wide.specs.Lanes.{chunk_value}
use Rattle.hasher.proofs.Chunks.{chained-part}
use Rattle.hasher.proofs.chunk_value.Goals as goal

pub returns : goal.returns
unfolding chunk_value
returns c =
    let a = c.args in
    let cut = c.split_at.ensures in
    c.compress.ensures ∙ cc (c.chain-c.ensures, c.block_words.ensures, cut.back, chained-part last_block a.cv a.t 0 _ _ cut.by_index.0 cut.front_len)
