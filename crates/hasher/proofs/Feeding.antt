-- Laws of feeding. Assumes nothing.
use mathlib.Core.Path.{◌≡◌, refl, sym, ap, ap₂, ◌∙◌}
use mathlib.Core.List.{List, [], ◌∷◌, ◌++◌, append-nil}
use mathlib.Core.Logic.{⊎_elim}
use Prim.Native.Nat.{ℕ, zero, suc, ◌+◌, ◌*◌, ◌≤◌, ◌<◌}
use native.Mathlib.Numerals.{add-one}
use native.Mathlib.Omega.{arith}
use lib.ListN.{length, take, drop, set, length-drop, take-append-drop, drop_of_length-le}
use lib.Seq.{sets, sets-eq, length-take-le, drop-drop}
use borrow.Author.Tests.{lt-ltb, le-ltb}
use Rattle.compression.specs.Sizes.{block_len, chunk_len, last_block}
use Rattle.compression.specs.Word.{words}
use Rattle.compression.specs.Compression.{compress}
use Rattle.compression.specs.Laws.{words_take}
use Rattle.wide.specs.Lanes.{chunk_value}
use Rattle.compression.specs.Chain.{start_flag, chained}
use Rattle.hasher.specs.State.{no_block, next_block, chunk_done, next_chunk, advanced, with_room, absorbed, fed_freely}
use Rattle.hasher.specs.declared.Hasher.{Hasher}
use Rattle.hasher.proofs.Stacking.{lt-or-le}

-- ---- a block taken in

pub advanced-block : (h : Hasher) (m : List ℕ) → h.blocks_compressed < last_block → advanced h m ≡ next_block h m
unfolding advanced
advanced-block h m p = rw (lt-ltb h.blocks_compressed last_block p)

pub advanced-chunk : (h : Hasher) (m : List ℕ) → last_block ≤ h.blocks_compressed → advanced h m ≡ next_chunk h m
unfolding advanced
advanced-chunk h m p = rw (le-ltb h.blocks_compressed last_block p)

-- a state whose block is empty
abbrev pub Empty : Hasher → Type 0
Empty h = (h.block_len ≡ 0) × (length h.block ≡ block_len)

pub advanced-empty : (h : Hasher) (m : List ℕ) → Empty (advanced h m)
unfolding next_block chunk_done next_chunk
advanced-empty h m =
    ⊎_elim
    (λ (p : h.blocks_compressed < last_block). rw (advanced-block h m p) (refl, refl))
    (λ (p : last_block ≤ h.blocks_compressed). rw (advanced-chunk h m p) (refl, refl))
    (lt-or-le h.blocks_compressed last_block)

pub room-there : (h : Hasher) → h.block_len < block_len → with_room h ≡ h
unfolding with_room
room-there h p = rw (lt-ltb h.block_len block_len p)

pub room-made : (h : Hasher) → block_len ≤ h.block_len → with_room h ≡ advanced h (words h.block)
unfolding with_room
room-made h p = rw (le-ltb h.block_len block_len p)

room-len : (h : Hasher) → (with_room h).block_len < block_len
room-len h =
    ⊎_elim
    (λ (p : h.block_len < block_len). rw (room-there h p) p)
    (λ (p : block_len ≤ h.block_len). rw (room-made h p) (let e = advanced-empty h (words h.block) in omega arith))
    (lt-or-le h.block_len block_len)

-- ---- parts of the input

pub fed-append : (h : Hasher) (a b : List ℕ) → fed_freely h (a ++ b) ≡ fed_freely (fed_freely h a) b
unfolding fed_freely
fed-append h [] b = refl
fed-append h (x ∷ a) b = fed-append (absorbed h x) a b

-- the first n bytes and the others
pub fed-split : (h : Hasher) (n : ℕ) (s : List ℕ) → fed_freely (fed_freely h (take n s)) (drop n s) ≡ fed_freely h s
fed-split h n s = sym (fed-append h (take n s) (drop n s)) ∙ ap (fed_freely h) (take-append-drop n s)

-- the state with another block, of n bytes
abbrev pub holding : Hasher → List ℕ → ℕ → Hasher
holding h bytes n = record { chaining_value = h.chaining_value; block = bytes; block_len = n; blocks_compressed = h.blocks_compressed; cv_stack = h.cv_stack; chunk_counter = h.chunk_counter }

-- if a byte follows, room can be made first
pub fed-room : (h : Hasher) (s : List ℕ) → 0 < length s → fed_freely (with_room h) s ≡ fed_freely h s
unfolding fed_freely absorbed
fed-room h [] p = absurd (omega arith)
fed-room h (b ∷ s) p =
    ap (λ (r : Hasher). fed_freely (holding r (set r.block r.block_len b) (r.block_len + 1)) s) (room-there (with_room h) (room-len h))

-- a byte for which the block has room
byte-held : (h : Hasher) (b : ℕ) (s : List ℕ) → h.block_len < block_len → fed_freely h (b ∷ s) ≡ fed_freely (holding h (set h.block h.block_len b) (h.block_len + 1)) s
unfolding fed_freely absorbed
byte-held h b s p = ap (λ (r : Hasher). fed_freely (holding r (set r.block r.block_len b) (r.block_len + 1)) s) (room-there h p)

pub fed-none : (h : Hasher) (s : List ℕ) (i : ℕ) → length s ≤ i → fed_freely h (drop i s) ≡ h
unfolding fed_freely
fed-none h s i p = ap (fed_freely h) (drop_of_length-le s {i = i} p)

-- bytes for which the block has room
pub part_held : (h : Hasher) (xs : List ℕ) → h.block_len + length xs ≤ block_len → fed_freely h xs ≡ holding h (sets h.block h.block_len xs) (h.block_len + length xs)
unfolding fed_freely
part_held h [] p = let e : h.block_len ≡ h.block_len + 0 = omega arith in ap (holding h h.block) e
part_held h (b ∷ xs) p =
    let e : h.block_len + 1 + length xs ≡ h.block_len + suc (length xs) = omega arith in
    byte-held h b xs (omega arith)
    ∙ part_held (holding h (set h.block h.block_len b) (h.block_len + 1)) xs (omega arith)
    ∙ ap₂ (λ (i n : ℕ). holding h (sets (set h.block h.block_len b) i xs) n) (add-one h.block_len) e

-- ---- whole blocks

-- a list with every place set
all_set : (l xs : List ℕ) → length xs ≡ length l → sets l 0 xs ≡ xs
all_set l xs e =
    sets-eq xs l 0 (omega arith)
    ∙ ap (λ (r : List ℕ). xs ++ r) (drop_of_length-le l {i = 0 + length xs} (omega arith)) ∙ append-nil xs

-- whatever the block held before
block_held : (h : Hasher) (xs : List ℕ) → h.block_len ≡ 0 → length h.block ≡ block_len → length xs ≡ block_len → fed_freely h xs ≡ holding h xs block_len
block_held h xs z l e =
    let n : h.block_len + length xs ≡ block_len = omega arith in
    part_held h xs (omega arith)
    ∙ ap₂ (λ (i k : ℕ). holding h (sets h.block i xs) k) z n
    ∙ ap (λ (b : List ℕ). holding h b block_len) (all_set h.block xs (e ∙ sym l))

-- the block that the state holds does not change what is taken in
advanced-holding : (h : Hasher) (b : List ℕ) (n : ℕ) (m : List ℕ) → advanced (holding h b n) m ≡ advanced h m
unfolding advanced next_block chunk_done next_chunk
advanced-holding h b n m = refl

-- a block that more input follows
pub fed-block : (h : Hasher) (s : List ℕ) → h.block_len ≡ 0 → length h.block ≡ block_len → block_len < length s → fed_freely h s ≡ fed_freely (advanced h (words s)) (drop block_len s)
fed-block h s z l p =
    let full : Hasher = holding h (take block_len s) block_len in
    sym (fed-split h block_len s)
    ∙ ap (λ (r : Hasher). fed_freely r (drop block_len s)) (block_held h (take block_len s) z l (length-take-le block_len s (omega arith)))
    ∙ sym (fed-room full (drop block_len s) (omega (arith, length-drop block_len s)))
    ∙ ap (λ (r : Hasher). fed_freely r (drop block_len s)) (room-made full (omega arith) ∙ ap (advanced full) (words_take s) ∙ advanced-holding h (take block_len s) block_len (words s))

-- the state with an empty block, the chaining value c and n blocks taken in
abbrev pub emptied : Hasher → List ℕ → ℕ → Hasher
emptied h c n = record { chaining_value = c; block = no_block; block_len = 0; blocks_compressed = n; cv_stack = h.cv_stack; chunk_counter = h.chunk_counter }

empty-first : (h : Hasher) (s : List ℕ) → h.block_len ≡ 0 → length h.block ≡ block_len → block_len < length s → fed_freely h s ≡ fed_freely (emptied h h.chaining_value h.blocks_compressed) s
empty-first h s z l p =
    fed-block h s z l p ∙ ap (λ (r : Hasher). fed_freely r (drop block_len s)) (sym (advanced-holding h no_block 0 (words s)))
    ∙ sym (fed-block (emptied h h.chaining_value h.blocks_compressed) s refl refl p)

chain_held : (n : ℕ) (h : Hasher) (c : List ℕ) (b : ℕ) (s : List ℕ) → n + b ≤ last_block → block_len * n < length s
    → fed_freely (emptied h c b) s ≡ fed_freely (emptied h (chained n c h.chunk_counter b s) (b + n)) (drop (block_len * n) s)
unfolding chained next_block
chain_held zero h c b s p q = let e : b ≡ b + 0 = omega arith in ap (λ (k : ℕ). fed_freely (emptied h c k) s) e
chain_held (suc n) h c b s p q =
    let e : b + 1 + n ≡ b + suc n = omega arith in
    let d : block_len + block_len * n ≡ block_len * suc n = omega arith in
    let v : List ℕ = compress c (words s) h.chunk_counter block_len (start_flag b) in
    fed-block (emptied h c b) s refl refl (omega arith)
    ∙ ap (λ (r : Hasher). fed_freely r (drop block_len s)) (advanced-block (emptied h c b) (words s) (omega arith))
    ∙ chain_held n h v (b + 1) (drop block_len s) (omega arith) (omega (arith, length-drop block_len s))
    ∙ ap₂ (λ (k : ℕ) (r : List ℕ). fed_freely (emptied h (chained n v h.chunk_counter (b + 1) (drop block_len s)) k) r) e
    (drop-drop (block_len * n) block_len s ∙ ap (λ (k : ℕ). drop k s) d)

-- blocks of a chunk, none of them its last
pub fed-chain : (n : ℕ) (h : Hasher) (s : List ℕ) → h.block_len ≡ 0 → length h.block ≡ block_len → 0 < n → n + h.blocks_compressed ≤ last_block → block_len * n < length s
    → fed_freely h s ≡ fed_freely (emptied h (chained n h.chaining_value h.chunk_counter h.blocks_compressed s) (h.blocks_compressed + n)) (drop (block_len * n) s)
fed-chain n h s z l o p q = empty-first h s z l (omega arith) ∙ chain_held n h h.chaining_value h.blocks_compressed s p q

-- the chunk's last block
ended : (h : Hasher) (s c : List ℕ) {n : ℕ} → n ≡ last_block → c ≡ chained last_block h.chaining_value h.chunk_counter 0 s
    → next_chunk (emptied h c n) (words (drop (block_len * last_block) s)) ≡ chunk_done h (chunk_value h.chaining_value h.chunk_counter s)
unfolding chunk_done next_chunk chunk_value
ended h s c e q = rw (e, q)

-- a whole chunk from its start on, which more input follows
pub fed-chunk : (h : Hasher) (s : List ℕ) → h.block_len ≡ 0 → length h.block ≡ block_len → h.blocks_compressed ≡ 0 → chunk_len < length s
    → fed_freely h s ≡ fed_freely (chunk_done h (chunk_value h.chaining_value h.chunk_counter s)) (drop chunk_len s)
fed-chunk h s z l b p =
    let c : List ℕ = chained last_block h.chaining_value h.chunk_counter h.blocks_compressed s in
    let e : Hasher = emptied h c (h.blocks_compressed + last_block) in
    let n : h.blocks_compressed + last_block ≡ last_block = omega arith in
    fed-chain last_block h s z l (omega arith) (omega arith) (omega arith)
    ∙ fed-block e (drop (block_len * last_block) s) refl refl (omega (arith, length-drop (block_len * last_block) s))
    ∙ ap₂ (λ (r : Hasher) (x : List ℕ). fed_freely r x) (advanced-chunk e (words (drop (block_len * last_block) s)) (omega arith) ∙ ended h s c n (ap (λ (k : ℕ). chained last_block h.chaining_value h.chunk_counter k s) b)) (drop-drop block_len (block_len * last_block) s)
