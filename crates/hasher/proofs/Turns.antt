-- What each turn of `feed` makes of the state, if the rest of the input is fed to it afterwards.
use mathlib.Core.Path.{◌≡◌, sym, ap, ap₂, ◌∙◌}
use mathlib.Core.List.{List, ◌++◌}
use Prim.Native.Nat.{ℕ, ◌+◌, ◌*◌, ◌≤◌, ◌<◌}
use native.Mathlib.Omega.{arith}
use lib.ListN.{length, take, drop, length-append, length-take, length-drop}
use lib.Seq.{sets-eq, length-take-le}
use Rattle.compression.specs.Sizes.{block_len, chunk_len, last_block}
use Rattle.compression.specs.Word.{words}
use Rattle.compression.specs.Chain.{chained}
use Rattle.hasher.specs.State.{no_block, advanced, fed_freely}
use Rattle.hasher.specs.Whole.{chunks_done}
use Rattle.hasher.specs.declared.Hasher.{Hasher}
use Rattle.hasher.proofs.Feeding.{holding, room-made, fed-room, fed-split, part_held, fed-chain}
use Rattle.hasher.proofs.Four.{fed-chunks}

module _ (h : Hasher) (s : List ℕ) where
  -- a full block that more input follows
  pub full-turn : {m : List ℕ} {r : Hasher} → block_len ≤ h.block_len → 0 < length s → m ≡ words h.block → r ≡ advanced h m → fed_freely r s ≡ fed_freely h s
  full-turn p q em er = ap (λ (r : Hasher). fed_freely r s) (er ∙ ap (advanced h) em ∙ sym (room-made h p)) ∙ fed-room h s q

  -- n whole chunks
  pub whole-turn : (n : ℕ) {r : Hasher} → h.block_len ≡ 0 → length h.block ≡ block_len → h.blocks_compressed ≡ 0 → chunk_len * n < length s → r ≡ chunks_done n h s
      → fed_freely r (drop (chunk_len * n) s) ≡ fed_freely h s
  whole-turn n z l b p er = rw er (sym (fed-chunks n h s z l b p))

  -- n whole blocks, none of them the chunk's last
  pub blocks-turn : (n : ℕ) {c : List ℕ} {t : ℕ} → h.block_len ≡ 0 → length h.block ≡ block_len → 0 < n → n + h.blocks_compressed ≤ last_block → block_len * n < length s
      → t ≡ h.chunk_counter → c ≡ chained n h.chaining_value t h.blocks_compressed s
      → fed_freely (record { chaining_value = c; block = no_block; block_len = h.block_len; blocks_compressed = h.blocks_compressed + n; cv_stack = h.cv_stack; chunk_counter = h.chunk_counter }) (drop (block_len * n) s) ≡ fed_freely h s
  blocks-turn n z l o p q et ec = cc (fed-chain n h s z l o p q)

  -- n bytes for which the block has room, written behind those that it has
  pub part-turn : (n : ℕ) {xs b : List ℕ} → length h.block ≡ block_len → h.block_len + n ≤ block_len → n ≤ length s → xs ≡ take n s
      → b ≡ take h.block_len h.block ++ xs ++ drop (h.block_len + length xs) h.block → fed_freely (holding h b (h.block_len + n)) (drop n s) ≡ fed_freely h s
  part-turn n {xs} {b} l p q ex eb =
      let m : length xs ≡ n = ap length ex ∙ length-take-le n s q in
      let held : holding h b (h.block_len + n) ≡ fed_freely h xs =
      ap₂ (λ (x : List ℕ) (i : ℕ). holding h x (h.block_len + i)) (eb ∙ sym (sets-eq xs h.block h.block_len (omega arith))) (sym m) ∙ sym (part_held h xs (omega arith)) in
      ap (λ (r : Hasher). fed_freely r (drop n s)) (held ∙ ap (fed_freely h) ex) ∙ fed-split h n s

  -- the block keeps its length
  pub part-length : (n : ℕ) (xs : List ℕ) {b : List ℕ} → length h.block ≡ block_len → h.block_len + n ≤ block_len → length xs ≡ n
      → b ≡ take h.block_len h.block ++ xs ++ drop (h.block_len + length xs) h.block → length b ≡ block_len
  part-length n xs l p e eb = rw eb (simp (length-append, length-take, length-drop) (omega arith))
