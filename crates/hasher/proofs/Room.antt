-- How many bytes a state has taken in, and that nothing is fed beyond the capacity.
use mathlib.Core.Path.{◌≡◌, refl, sym, ap, ◌∙◌}
use mathlib.Core.List.{List, [], ◌∷◌, ◌++◌}
use mathlib.Core.Logic.{⊎_elim}
use Prim.Native.Nat.{ℕ, zero, suc, ◌+◌, ◌-◌, ◌≤◌, ◌<◌, min}
use native.Mathlib.Omega.{arith}
use lib.ListN.{length, take, length-take}
use lib.Seq.{take_all}
use Rattle.compression.specs.Sizes.{block_len, last_block}
use Rattle.compression.specs.Word.{words}
use Rattle.hasher.specs.State.{next_block, chunk_done, next_chunk, with_room, absorbed, fed_freely, capacity, fill, fed}
use Rattle.hasher.specs.declared.Hasher.{Hasher}
use Rattle.hasher.proofs.Stacking.{lt-or-le}
use Rattle.hasher.proofs.Feeding.{advanced-block, advanced-chunk, room-there, room-made, fed-append}

-- room for a byte, already there or made
room-fill : (h : Hasher) → fill h < capacity → (fill (with_room h) ≡ fill h) × ((with_room h).block_len < block_len)
unfolding next_block chunk_done next_chunk
room-fill h p =
    ⊎_elim
    (λ (q : h.block_len < block_len). rw (room-there h q) (refl, q))
    (λ (q : block_len ≤ h.block_len). ⊎_elim
    (λ (b : h.blocks_compressed < last_block). rw (room-made h q, advanced-block h (words h.block) b) (omega arith, omega arith))
    (λ (b : last_block ≤ h.blocks_compressed). rw (room-made h q, advanced-chunk h (words h.block) b) (omega arith, omega arith))
    (lt-or-le h.blocks_compressed last_block))
    (lt-or-le h.block_len block_len)

-- one more byte
byte-fill : (h : Hasher) (b : ℕ) → fill h < capacity → fill (absorbed h b) ≡ fill h + 1
unfolding absorbed
byte-fill h b p = let r = room-fill h p in omega (arith, r)

pub freely-fill : (h : Hasher) (bs : List ℕ) → length bs ≤ capacity - fill h → fill (fed_freely h bs) ≡ fill h + length bs
unfolding fed_freely
freely-fill h [] p = omega arith
freely-fill h (b ∷ bs) p =
    let e = byte-fill h b (omega arith) in
    freely-fill (absorbed h b) bs (omega (arith, e)) ∙ omega (arith, e)

pub fed-fill : (h : Hasher) (bs : List ℕ) → fill (fed h bs) ≡ fill h + min (capacity - fill h) (length bs)
unfolding fed
fed-fill h bs =
    let l = length-take (capacity - fill h) bs in
    freely-fill h (take (capacity - fill h) bs) (omega (arith, l)) ∙ ap (λ (n : ℕ). fill h + n) l

-- the first n of two parts
take-append : (n : ℕ) (a b : List ℕ) → take n (a ++ b) ≡ take n a ++ take (n - length a) b
take-append zero a b = let e : 0 - length a ≡ 0 = omega arith in rw e
take-append (suc n) [] b = let e : suc n - 0 ≡ suc n = omega arith in rw e
take-append (suc n) (x ∷ a) b = let e : suc n - suc (length a) ≡ n - length a = omega arith in rw e (ap (λ (l : List ℕ). x ∷ l) (take-append n a b))

-- the room that a first part leaves
left-room : (room f n : ℕ) {k : ℕ} → k ≡ f + min (room - f) n → room - k ≡ (room - f) - n
left-room room f n e = rw e (omega arith)

-- two parts
pub fed-two : (h : Hasher) (a b : List ℕ) → fed (fed h a) b ≡ fed h (a ++ b)
unfolding fed
fed-two h a b =
    let n : ℕ = capacity - fill h in
    let e : fill (fed_freely h (take n a)) ≡ fill h + min n (length a) = freely-fill h (take n a) (omega (arith, length-take n a)) ∙ ap (λ (k : ℕ). fill h + k) (length-take n a) in
    let r : capacity - fill (fed_freely h (take n a)) ≡ n - length a = left-room capacity (fill h) (length a) e in
    ap (λ (k : ℕ). fed_freely (fed_freely h (take n a)) (take k b)) r
    ∙ sym (fed-append h (take n a) (take (n - length a) b)) ∙ ap (fed_freely h) (sym (take-append n a b))

take_none : (n : ℕ) → take {A = ℕ} n [] ≡ []
take_none zero = refl
take_none (suc n) = refl

pub fed-none : (h : Hasher) → fed h [] ≡ h
unfolding fed fed_freely
fed-none h = ap (fed_freely h) (take_none (capacity - fill h))

pub fed-full : (h : Hasher) (bs : List ℕ) → capacity ≤ fill h → fed h bs ≡ h
unfolding fed fed_freely
fed-full h bs p = let e : capacity - fill h ≡ 0 = omega arith in rw e

room : (f c n : ℕ) → min (c - min f c) n ≡ min (c - f) n
room f c n = ap (λ (k : ℕ). min k n) (omega arith)

cut_short : (r n k : ℕ) → k ≡ min r n → r < n → k ≡ r
cut_short r n k e p = omega arith

cut-none : (r n k : ℕ) → k ≡ min r n → n ≤ r → n ≤ k
cut-none r n k e p = omega arith

take-cut : (r : ℕ) (bs : List ℕ) (k : ℕ) → k ≡ min r (length bs) → take k bs ≡ take r bs
take-cut r bs k e =
    ⊎_elim
    (λ (p : r < length bs). ap (λ (i : ℕ). take i bs) (cut_short r (length bs) k e p))
    (λ (p : length bs ≤ r). take_all k bs (cut-none r (length bs) k e p) ∙ sym (take_all r bs p))
    (lt-or-le r (length bs))

-- the input cut once, by how much the state has taken in
pub fed-cut : (h : Hasher) (bs : List ℕ) {k n : ℕ} → k ≡ min (fill h) capacity → n ≡ min (capacity - k) (length bs) → fed_freely h (take n bs) ≡ fed h bs
unfolding fed
fed-cut h bs {k} {n} ek en =
    ap (fed_freely h) (take-cut (capacity - fill h) bs n (en ∙ ap (λ (i : ℕ). min (capacity - i) (length bs)) ek ∙ room (fill h) capacity (length bs)))
