-- A chunk by its blocks, and a block by its bytes.
use mathlib.Core.Path.{◌≡◌, refl, sym, ap, ap₂, ◌∙◌}
use mathlib.Core.List.{List, [], ◌∷◌, ◌++◌}
use Prim.Native.Nat.{ℕ, zero, suc, ◌+◌, ◌*◌, ◌-◌, ◌/◌, ◌≤◌, ◌<◌}
use native.Mathlib.Omega.{arith}
use native.Mathlib.Numerals.{add-one}
use lib.ListN.{length, get_or, take, drop, set, replicate, length-append, length-drop, take-append-drop}
use lib.Seq.{take-append-le, drop-append-le, length-take-le, set_at, append_snoc, drop-drop}
use borrow.Author.Tests.{le-leb, lt-leb}
use Rattle.std.specs.Simd.{first_chunks}
use Rattle.compression.specs.Sizes.{block_len, chunk_len, last_block}
use Rattle.compression.specs.Word.{words}
use Rattle.compression.specs.Compression.{iv, compress}
use Rattle.compression.specs.Laws.{words_take}
use Rattle.hasher.specs.Hash.{last_output, chunk_from, chunk_output}
use Rattle.compression.specs.Chain.{start_flag, chained}
use Rattle.hasher.specs.State.{filled}

-- what follows a block does not change its words
words_append : (ds ps : List ℕ) → block_len ≤ length ds → words (ds ++ ps) ≡ words ds
words_append ds ps h = sym (words_take (ds ++ ps)) ∙ ap words (take-append-le block_len ds ps h) ∙ words_take ds

flag-later : (b : ℕ) → start_flag (b + 1) ≡ 0
flag-later b = rw add-one

chunk-last : (k : ℕ) (c : List ℕ) (first t : ℕ) (bs : List ℕ) → length bs ≤ block_len → chunk_from k c first t bs ≡ last_output c first t bs
unfolding chunk_from
chunk-last zero c first t bs h = refl
chunk-last (suc k) c first t bs h = rw (le-leb (length bs) block_len h)

-- n whole blocks ds, the first of them block number b, go into the chaining value, and ps is the last block
pub chunk-blocks : (k n : ℕ) (c : List ℕ) (b t : ℕ) (ds ps : List ℕ) → n ≤ k → length ds ≡ block_len * n → length ps ≤ block_len → (0 < n → 0 < length ps)
    → chunk_from k c (start_flag b) t (ds ++ ps) ≡ last_output (chained n c t b ds) (start_flag (b + n)) t ps
unfolding chained chunk_from
chunk-blocks k zero c b t [] ps h e l p =
    let same : b ≡ b + 0 = omega arith in
    chunk-last k c (start_flag b) t ps l ∙ ap (λ (m : ℕ). last_output c (start_flag m) t ps) same
chunk-blocks k zero c b t (d ∷ ds) ps h e l p = absurd (omega arith)
chunk-blocks zero (suc n) c b t ds ps h e l p = absurd (omega arith)
chunk-blocks (suc k) (suc n) c b t ds ps h e l p =
    let big : block_len < length (ds ++ ps) = omega (arith, length-append ds ps, p (omega arith)) in
    let one : block_len ≤ length ds = omega arith in
    let next : List ℕ = compress c (words ds) t block_len (start_flag b) in
    let later : b + 1 + n ≡ b + suc n = omega arith in
    rw (lt-leb (length (ds ++ ps)) block_len big, words_append ds ps one, drop-append-le block_len ds ps one)
    (ap (λ (f : ℕ). chunk_from k next f t (drop block_len ds ++ ps)) (sym (flag-later b))
    ∙ chunk-blocks k n next (b + 1) t (drop block_len ds) ps (omega arith) (omega (arith, length-drop block_len ds)) l (λ z. p (omega arith))
    ∙ ap (λ (m : ℕ). last_output (chained n next t (b + 1) (drop block_len ds)) (start_flag m) t ps) later)

-- one more whole block
pub chained_more : (n : ℕ) (c : List ℕ) (t b : ℕ) (ds ps : List ℕ) → length ds ≡ block_len * n
    → chained (suc n) c t b (ds ++ ps) ≡ compress (chained n c t b ds) (words ps) t block_len (start_flag (b + n))
unfolding chained
chained_more zero c t b [] ps e =
    let same : b ≡ b + 0 = omega arith in
    ap (λ (m : ℕ). compress c (words ps) t block_len (start_flag m)) same
chained_more zero c t b (d ∷ ds) ps e = absurd (omega arith)
chained_more (suc n) c t b ds ps e =
    let one : block_len ≤ length ds = omega arith in
    let later : b + 1 + n ≡ b + suc n = omega arith in
    ap₂ (λ (w x : List ℕ). chained (suc n) (compress c w t block_len (start_flag b)) t (b + 1) x) (words_append ds ps one) (drop-append-le block_len ds ps one)
    ∙ chained_more n (compress c (words ds) t block_len (start_flag b)) t (b + 1) (drop block_len ds) ps (omega (arith, length-drop block_len ds))
    ∙ ap (λ (m : ℕ). compress (chained (suc n) c t b ds) (words ps) t block_len (start_flag m)) later

-- one more byte
pub filled_more : (n : ℕ) (ps : List ℕ) (b : ℕ) → length ps ≡ n → n < block_len → set (filled n ps) n b ≡ filled (n + 1) (ps ++ (b ∷ []))
filled_more n ps b e h =
    let one : block_len - n ≡ suc (block_len - (n + 1)) = omega arith in
    rw one (set_at ps 0 (replicate (block_len - (n + 1)) 0) b n e ∙ sym (append_snoc ps b (replicate (block_len - (n + 1)) 0)))

-- the words of the blocks that s is cut into
pub block_words : (k i : ℕ) (s : List ℕ) → i < k → words (get_or (first_chunks block_len k s) i []) ≡ words (drop (0 + block_len * i) s)
block_words zero i s p = absurd (omega arith)
block_words (suc k) zero s p = words_take s
block_words (suc k) (suc i) s p =
    let d : block_len + (0 + block_len * i) ≡ 0 + block_len * suc i = omega arith in
    block_words k i (drop block_len s) (omega arith) ∙ ap words (drop-drop (0 + block_len * i) block_len s ∙ ap (λ (n : ℕ). drop n s) d)

-- ---- an input of at most one chunk

-- what follows whole blocks does not change them
chained-front : (n : ℕ) (c : List ℕ) (t b : ℕ) (ds ps : List ℕ) → length ds ≡ block_len * n → chained n c t b (ds ++ ps) ≡ chained n c t b ds
unfolding chained
chained-front zero c t b ds ps e = refl
chained-front (suc n) c t b ds ps e =
    let one : block_len ≤ length ds = omega arith in
    ap₂ (λ (w x : List ℕ). chained n (compress c w t block_len (start_flag b)) t (b + 1) x) (words_append ds ps one) (drop-append-le block_len ds ps one)
    ∙ chained-front n (compress c (words ds) t block_len (start_flag b)) t (b + 1) (drop block_len ds) ps (omega (arith, length-drop block_len ds))

-- the whole blocks of a part of s, which starts with them
pub chained-part : (n : ℕ) (c : List ℕ) (t b : ℕ) {s : List ℕ} (ds ps : List ℕ) → s ≡ ds ++ ps → length ds ≡ block_len * n → chained (length ds / block_len) c t b ds ≡ chained n c t b s
chained-part n c t b ds ps e l =
    let k : length ds / block_len ≡ n = omega arith in
    rw (k, e) (sym (chained-front n c t b ds ps l))

-- its blocks before the last, and the last
pub one_chunk : (s : List ℕ) (n : ℕ) → length s ≤ chunk_len → n ≡ (length s - 1) / block_len → chunk_output 0 s ≡ last_output (chained n iv 0 0 s) (start_flag n) 0 (drop (block_len * n) s)
one_chunk s n h e =
    let ds : List ℕ = take (block_len * n) s in
    let ps : List ℕ = drop (block_len * n) s in
    let whole : length ds ≡ block_len * n = length-take-le (block_len * n) s (omega arith) in
    let rest = length-drop (block_len * n) s in
    let all = take-append-drop (block_len * n) s in
    let zero_more : 0 + n ≡ n = omega arith in
    ap (chunk_output 0) (sym all)
    ∙ chunk-blocks last_block n iv 0 0 ds ps (omega arith) whole (omega arith) (λ z. omega arith)
    ∙ ap₂ (λ (c : List ℕ) (k : ℕ). last_output c (start_flag k) 0 ps) (sym (chained-front n iv 0 0 ds ps whole) ∙ ap (chained n iv 0 0) all) zero_more
