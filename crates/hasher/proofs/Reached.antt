-- What a state holds after bytes were fed, and that feeding keeps it so.
use mathlib.Core.Path.{◌≡◌, refl, sym, ap, ap₂, ◌∙◌}
use mathlib.Core.List.{List, [], ◌∷◌, ◌++◌, append_assoc, append-nil}
use Prim.Native.Nat.{ℕ, ◌+◌, ◌*◌, ◌-◌, ◌^◌, ◌≤◌, ◌<◌}
use native.Mathlib.Nat.{zero-add}
use native.Mathlib.Omega.{arith}
use native.Mathlib.Decide.{dec_lt}
use native.Mathlib.Numerals.{add-one}
use lib.ListN.{length, set, length-append}
use borrow.Author.Tests.{lt-ltb, le-ltb}
use Rattle.compression.specs.Sizes.{block_len, chunk_len, last_block}
use Rattle.compression.specs.Word.{words}
use Rattle.compression.specs.Compression.{iv}
use Rattle.compression.specs.Laws.{words-filled}
use Rattle.wide.specs.Lanes.{counter_after}
use Rattle.hasher.specs.Hash.{chaining_value, chunk_output, root_words, hash_words, max_depth}
use Rattle.hasher.specs.Stack.{levels, under}
use Rattle.compression.specs.Chain.{chained}
use Rattle.hasher.specs.State.{filled, start, output_with, next_block, chunk_done, next_chunk, advanced, with_room, absorbed, fed_freely, finished}
use Rattle.hasher.specs.declared.Hasher.{Hasher}
use Rattle.hasher.proofs.Tree.{tree_from, tree-deeper, waiting_none, under-waiting}
use Rattle.hasher.proofs.Chunks.{chunk-blocks, chained_more, filled_more}
use Rattle.hasher.proofs.Places.{Waits, waits-more}

-- The state h has taken in the bytes bs: the finished chunks fs, the blocks ds of the current chunk, and ps in the block.
pub record Holds (h : Hasher) (bs : List ℕ) : Type 0 where
  pub fs : List ℕ
  pub ds : List ℕ
  pub ps : List ℕ
  pub bytes : bs ≡ fs ++ (ds ++ ps)
  pub whole : length fs ≡ chunk_len * h.chunk_counter
  pub taken : length ds ≡ block_len * h.blocks_compressed
  pub held : length ps ≡ h.block_len
  pub cv : h.chaining_value ≡ chained h.blocks_compressed iv h.chunk_counter 0 ds
  pub block : h.block ≡ filled h.block_len ps
  pub blocks : h.blocks_compressed ≤ last_block
  pub len : h.block_len ≤ block_len
  pub few : h.chunk_counter < 2 ^ levels
  pub stack : Waits h.cv_stack fs

-- And feeding left it so: the block has a byte, unless nothing was fed.
pub record Reached (h : Hasher) (bs : List ℕ) : Type 0 where
  pub holds : Holds h bs
  pub some : 0 < h.blocks_compressed + h.chunk_counter → 0 < h.block_len

pub reached-start : Reached start []
unfolding chained
reached-start = record {
  holds = record {
    fs = [];
    ds = [];
    ps = [];
    bytes = refl;
    whole = refl;
    taken = refl;
    held = refl;
    cv = refl;
    block = refl;
    blocks = omega arith;
    len = omega arith;
    few = omega arith;
    stack = record { places = refl; bound = omega arith; values = sym (waiting_none levels 0) };
  };
  some = λ z. absurd (omega arith);
}

module _ (h : Hasher) (bs : List ℕ) (f : Holds h bs) where
  -- the bytes of the current chunk
  abbrev current : List ℕ
  current = f.ds ++ f.ps

  length-current : length current ≡ block_len * h.blocks_compressed + h.block_len
  length-current = omega (arith, length-append f.ds f.ps)

  length-all : length bs ≡ chunk_len * h.chunk_counter + block_len * h.blocks_compressed + h.block_len
  length-all = omega (arith, ap length f.bytes, length-append f.fs current, length-current)

  words-held : words h.block ≡ words f.ps
  words-held = ap words f.block ∙ words-filled f.ps (block_len - h.block_len)

  -- the output of the current chunk
  output-current : (0 < h.blocks_compressed → 0 < h.block_len) → output_with h (words h.block) h.block_len ≡ chunk_output h.chunk_counter current
  output-current p =
      cc (
        words-held,
        zero-add h.blocks_compressed,
        chunk-blocks last_block h.blocks_compressed iv 0 h.chunk_counter f.ds f.ps f.blocks f.taken (omega arith) (λ z. omega (arith, p z)),
      )

  -- a full block is taken in
  holds-block : h.block_len ≡ block_len → h.blocks_compressed < last_block → Holds (next_block h (words h.block)) bs
  unfolding next_block
  holds-block l k = record {
    fs = f.fs;
    ds = current;
    ps = [];
    bytes = f.bytes ∙ ap (λ (x : List ℕ). f.fs ++ x) (sym (append-nil current));
    whole = f.whole;
    taken = omega (arith, length-current);
    held = refl;
    cv = cc (words-held, zero-add h.blocks_compressed, add-one h.blocks_compressed, chained_more h.blocks_compressed iv h.chunk_counter 0 f.ds f.ps f.taken);
    block = refl;
    blocks = omega arith;
    len = omega arith;
    few = f.few;
    stack = f.stack;
  }

  -- a full chunk is finished
  holds-chunk : h.block_len ≡ block_len → h.blocks_compressed ≡ last_block → h.chunk_counter + 1 < 2 ^ levels → Holds (next_chunk h (words h.block)) bs
  unfolding chunk_done next_chunk chained
  holds-chunk l k few =
      let size : length current ≡ chunk_len = omega (arith, length-current) in
      let counted : counter_after h.chunk_counter 1 ≡ h.chunk_counter + 1 = omega arith in
      let last : output_with h (words h.block) block_len ≡ chunk_output h.chunk_counter current =
      ap (output_with h (words h.block)) (sym l) ∙ output-current (λ z. omega arith) in
      record {
        fs = f.fs ++ current;
        ds = [];
        ps = [];
        bytes = f.bytes ∙ sym (append-nil (f.fs ++ current));
        whole = omega (arith, length-append f.fs current);
        taken = refl;
        held = refl;
        cv = refl;
        block = refl;
        blocks = omega arith;
        len = omega arith;
        few = omega arith;
        stack = rw (counted, ap chaining_value last) (waits-more h.cv_stack f.fs f.stack h.chunk_counter current f.whole few size);
      }

  -- more input follows
  holds-room : length bs < chunk_len * 2 ^ levels → Holds (with_room h) bs × ((with_room h).block_len < block_len)
  unfolding with_room advanced next_block chunk_done next_chunk
  holds-room size = elim (dec_lt h.block_len block_len) [
    | yes q ↦ rw (lt-ltb h.block_len block_len q) (f, q)
    | no q ↦
        let full : h.block_len ≡ block_len = omega arith in
        rw (le-ltb h.block_len block_len (omega arith)) (elim (dec_lt h.blocks_compressed last_block) [
          | yes k ↦ rw (lt-ltb h.blocks_compressed last_block k) (holds-block full k, omega arith)
          | no k ↦ rw (le-ltb h.blocks_compressed last_block (omega arith)) (holds-chunk full (omega arith) (omega (arith, length-all)), omega arith)
        ])
  ]

  -- one more byte in the block
  holds-byte : (b : ℕ) → h.block_len < block_len
      → Holds (record { chaining_value = h.chaining_value; block = set h.block h.block_len b; block_len = h.block_len + 1; blocks_compressed = h.blocks_compressed; cv_stack = h.cv_stack; chunk_counter = h.chunk_counter }) (bs ++ (b ∷ []))
  holds-byte b l = record {
    fs = f.fs;
    ds = f.ds;
    ps = f.ps ++ (b ∷ []);
    bytes = rw f.bytes (simp append_assoc);
    whole = f.whole;
    taken = f.taken;
    held = omega (arith, length-append f.ps (b ∷ []));
    cv = f.cv;
    block = ap (λ (x : List ℕ). set x h.block_len b) f.block ∙ filled_more h.block_len f.ps b f.held l;
    blocks = f.blocks;
    len = omega arith;
    few = f.few;
    stack = f.stack;
  }

-- one more byte
reached-absorbed : (h : Hasher) (bs : List ℕ) (b : ℕ) → Holds h bs → length bs < chunk_len * 2 ^ levels → Reached (absorbed h b) (bs ++ (b ∷ []))
unfolding absorbed
reached-absorbed h bs b f size =
    let room = holds-room h bs f size in
    record { holds = holds-byte (with_room h) bs room.0 b room.1; some = λ z. omega arith }

pub reached-fed : (h : Hasher) (bs cs : List ℕ) → Reached h bs → length bs + length cs ≤ chunk_len * 2 ^ levels → Reached (fed_freely h cs) (bs ++ cs)
unfolding fed_freely
reached-fed h bs [] r size = rw append-nil r
reached-fed h bs (c ∷ cs) r size =
    rw append_assoc at
    (reached-fed (absorbed h c) (bs ++ (c ∷ [])) cs (reached-absorbed h bs c r.holds (omega arith)) (omega (arith, length-append bs (c ∷ []))))

-- finishing gives the digest
pub reached-finished : (h : Hasher) (bs : List ℕ) → Reached h bs → finished h ≡ hash_words bs
unfolding finished hash_words
reached-finished h bs r =
    let f = r.holds in
    let cs = current h bs f in
    let size = length-current h bs f in
    ap root_words
    (ap₂ under (output-current h bs f (λ z. r.some (omega arith))) f.stack.values
    ∙ rw zero-add at (under-waiting levels 0 h.chunk_counter f.fs cs f.whole f.few (omega arith) (λ z. omega (arith, r.some (omega arith))))
    ∙ ap (tree_from levels 0) (sym f.bytes)
    ∙ sym (tree-deeper levels max_depth 0 bs (omega (arith, length-all h bs f)) (omega arith)))
