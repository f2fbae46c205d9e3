-- What feeding and finishing make of every state, including states that feeding cannot produce.
use Rattle.std.specs.Prelude.{cond, List, [], ◌∷◌, ◌++◌, ℕ, ◌+◌, ◌*◌, ◌-◌, ◌^◌, min, ltb, set, take, replicate}
use Rattle.std.specs.Int.Count.{count_trailing_zeros}
use Rattle.compression.specs.Sizes.{block_len, chunk_len, last_block}
use Rattle.compression.specs.Word.{words}
use Rattle.compression.specs.Compression.{iv, compress, chunk_end}
use Rattle.compression.specs.Chain.{start_flag}
use Rattle.wide.specs.Lanes.{count_bits, counter_after}
use Rattle.hasher.specs.Hash.{chaining_value, root_words}
use Rattle.hasher.specs.Stack.{levels, values_of, under, pushed}
use Rattle.hasher.specs.declared.Output.{Output}
use Rattle.hasher.specs.declared.ChainingValue.{ChainingValue}
use Rattle.hasher.specs.declared.CvStack.{CvStack}
use Rattle.hasher.specs.declared.Hasher.{Hasher}

abbrev pub no_value : ChainingValue
no_value = record { words = replicate 8 0 }

abbrev pub no_values : CvStack
no_values = record { values = replicate levels no_value; len = 0 }

abbrev pub no_block : List ℕ
no_block = replicate block_len 0

-- the block that holds the bytes ps, n of them
abbrev pub filled : ℕ → List ℕ → List ℕ
filled n ps = ps ++ replicate (block_len - n) 0

-- nothing was fed
abbrev pub start : Hasher
start = record { chaining_value = iv; block = no_block; block_len = 0; blocks_compressed = 0; cv_stack = no_values; chunk_counter = 0 }

-- the output of the current chunk, m being its last block, of n bytes
abbrev pub output_with : Hasher → List ℕ → ℕ → Output
output_with h m n =
    record {
      input_chaining_value = h.chaining_value;
      block_words = m;
      counter = h.chunk_counter;
      block_len = n;
      flags = start_flag h.blocks_compressed + chunk_end;
    }

-- the block m belongs to the current chunk and is not its last
unfoldable pub next_block : Hasher → List ℕ → Hasher
next_block h m =
    record {
      chaining_value = compress h.chaining_value m h.chunk_counter block_len (start_flag h.blocks_compressed);
      block = no_block;
      block_len = 0;
      blocks_compressed = h.blocks_compressed + 1;
      cv_stack = h.cv_stack;
      chunk_counter = h.chunk_counter;
    }

-- The current chunk is finished, c being its chaining value (document 01: "waiting subtrees are joined as often as the finished chunk count has
-- trailing zero bits").
unfoldable pub chunk_done : Hasher → List ℕ → Hasher
chunk_done h c =
    let chunks = counter_after h.chunk_counter 1 in
    record {
      chaining_value = iv;
      block = no_block;
      block_len = 0;
      blocks_compressed = 0;
      cv_stack = pushed h.cv_stack (count_trailing_zeros count_bits chunks) c;
      chunk_counter = chunks;
    }

-- the block m ends the current chunk
unfoldable pub next_chunk : Hasher → List ℕ → Hasher
next_chunk h m = chunk_done h (chaining_value (output_with h m block_len))

-- the block m, which more input follows, belongs to the current chunk
unfoldable pub advanced : Hasher → List ℕ → Hasher
advanced h m = cond (ltb h.blocks_compressed last_block) (next_block h m) (next_chunk h m)

-- more input follows: a full block is taken in
unfoldable pub with_room : Hasher → Hasher
with_room h = cond (ltb h.block_len block_len) h (advanced h (words h.block))

-- one more byte
unfoldable pub absorbed : Hasher → ℕ → Hasher
absorbed h b =
    let r = with_room h in
    record {
      chaining_value = r.chaining_value;
      block = set r.block r.block_len b;
      block_len = r.block_len + 1;
      blocks_compressed = r.blocks_compressed;
      cv_stack = r.cv_stack;
      chunk_counter = r.chunk_counter;
    }

-- all of the bytes, however many the state has taken in
unfoldable pub fed_freely : Hasher → List ℕ → Hasher
fed_freely h [] = h
fed_freely h (b ∷ bs) = fed_freely (absorbed h b) bs

-- the most bytes that a state takes in: 2 ^ levels chunks
abbrev pub capacity : ℕ
capacity = chunk_len * 2 ^ levels

-- How many bytes a state has taken in. In a state that feeding cannot produce, an over-full block or chunk counts as full, so that each byte
-- taken in counts as one, whatever the state.
abbrev pub fill : Hasher → ℕ
fill h = chunk_len * h.chunk_counter + block_len * min h.blocks_compressed last_block + min h.block_len block_len

-- the first of the bytes, as many as there is room for; the rest is dropped
unfoldable pub fed : Hasher → List ℕ → Hasher
fed h bs = fed_freely h (take (capacity - fill h) bs)

-- the digest's words: the current chunk's output joined with all values that wait, the last join with the flag ROOT
unfoldable pub finished : Hasher → List ℕ
finished h = root_words (under (output_with h (words h.block) h.block_len) (values_of h.cv_stack))
