-- BLAKE3 in hash mode (its specification, sections 2.1 to 2.6): chunks, parents, and the root's eight words.
use Rattle.std.specs.Prelude.{cond, List, ◌++◌, ℕ, zero, suc, ◌+◌, leb, length, drop}
use Rattle.compression.specs.Sizes.{block_len, last_block}
use Rattle.compression.specs.Word.{words}
use Rattle.compression.specs.Compression.{iv, compress, chunk_start, chunk_end, parent_flag, root_flag}
use Rattle.hasher.specs.Tree.{node}
use Rattle.hasher.specs.declared.Output.{Output}

-- the chaining value of an output, and the digest's eight words if it is the root's
abbrev pub chaining_value : Output → List ℕ
chaining_value o = compress o.input_chaining_value o.block_words o.counter o.block_len o.flags

abbrev pub root_words : Output → List ℕ
root_words o = compress o.input_chaining_value o.block_words o.counter o.block_len (o.flags + root_flag)

-- the output of the parent of two chaining values
abbrev pub parent_output : List ℕ → List ℕ → Output
parent_output l r = record { input_chaining_value = iv; block_words = l ++ r; counter = 0; block_len = block_len; flags = parent_flag }

-- the output of chunk t, bs being its last block and c the chaining value before it; `first` is CHUNK_START if that block is also the first, else 0
abbrev pub last_output : List ℕ → ℕ → ℕ → List ℕ → Output
last_output c first t bs = record { input_chaining_value = c; block_words = words bs; counter = t; block_len = length bs; flags = first + chunk_end }

-- the output of chunk t, bs being its bytes from some block on and c the chaining value before that block; at most k blocks stand before the last
unfoldable pub chunk_from : ℕ → List ℕ → ℕ → ℕ → List ℕ → Output
chunk_from zero c first t bs = last_output c first t bs
chunk_from (suc k) c first t bs =
    let more = chunk_from k (compress c (words bs) t block_len first) 0 t (drop block_len bs) in
    cond (leb (length bs) block_len) (last_output c first t bs) more

abbrev pub chunk_output : ℕ → List ℕ → Output
chunk_output t bs = chunk_from last_block iv chunk_start t bs

-- the output of the tree over bs, at most 2 ^ d chunks
abbrev pub tree_of : ℕ → List ℕ → Output
tree_of d bs = node chunk_output parent_output chaining_value d 0 bs

-- 2 ^ 54 chunks hold every input of fewer than 2 ^ 64 bytes, which is all that BLAKE3 hashes
abbrev pub max_depth : ℕ
max_depth = 54

-- the digest of bs, as eight words
unfoldable pub hash_words : List ℕ → List ℕ
hash_words bs = root_words (tree_of max_depth bs)
