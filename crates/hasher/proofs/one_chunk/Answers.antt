-- `hasher::one_chunk` meets its contract: the tree of at most one chunk is that chunk, by its blocks before the last and its last.
use Rattle.std.proofs.Common.{◌≡◌, ℕ, ◌+◌, ◌*◌, ◌-◌, ◌/◌, ◌≤◌, List, ◌++◌, length, drop, arith, rules}
use Rattle.compression.specs.Sizes.{block_len, chunk_len}
use Rattle.compression.specs.Word.{words}
use Rattle.compression.specs.Compression.{iv, chunk_end}
use Rattle.compression.specs.Chain.{start_flag, chained}
use Rattle.hasher.specs.Hash.{root_words, hash_words, max_depth}
use Rattle.hasher.proofs.Tree.{tree-chunk}
use Rattle.hasher.proofs.Chunks.{chained-part, one_chunk}
use Rattle.hasher.proofs.one_chunk.Goals as goal

steps : (s ds ps : List ℕ) (n : ℕ) {v c m r : List ℕ} {f : ℕ} → length s ≤ chunk_len → n ≡ (length s - 1) / block_len → s ≡ ds ++ ps → length ds ≡ block_len * n → ps ≡ drop (block_len * n) s
    → v ≡ iv → c ≡ chained (length ds / block_len) v 0 0 ds → m ≡ words ps
    → f ≡ start_flag n → r ≡ root_words (record { input_chaining_value = c; block_words = m; counter = 0; block_len = length ps; flags = f + chunk_end }) → r ≡ hash_words s
unfolding hash_words
steps s ds ps n h en es el ep ev ec em ef er =
    cc (tree-chunk max_depth 0 s h, one_chunk s n h en, chained-part n iv 0 0 ds ps es el)

pub returns : goal.returns
returns c =
    let a = c.args in
    let cut = c.split_at.ensures in
    steps a.s.now _ _ (c.saturating_sub-n.result / block_len) (search rules) (omega arith) cut.by_index.0 cut.front_len cut.back
    c.iv.ensures c.chain.ensures c.last_words.ensures c.start_flag.ensures.0 c.root_words.ensures
