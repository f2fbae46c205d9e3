-- BLAKE3's compression function, as its specification defines it (section 2.2).
-- A state is a list of 16 words, a message block a list of 16 words, a chaining value a list of 8.
use Rattle.std.specs.Prelude.{ℕ, zero, suc, ◌/◌, ◌%◌, ◌^◌, List, [], ◌∷◌, map, slice_index, slice_set}
use Rattle.compression.specs.Word.{add32, xor, rotr}

-- the word at i
abbrev pub at : List ℕ → ℕ → ℕ
at l i = slice_index l i

-- the quarter-round G on the words a, b, c, d of the state, with the words x and y of the message
unfoldable pub quarter : (a b c d x y : ℕ) → List ℕ
quarter a b c d x y =
    let a1 = add32 (add32 a b) x in
    let d1 = rotr 16 (xor d a1) in
    let c1 = add32 c d1 in
    let b1 = rotr 12 (xor b c1) in
    let a2 = add32 (add32 a1 b1) y in
    let d2 = rotr 8 (xor d1 a2) in
    let c2 = add32 c1 d2 in
    let b2 = rotr 7 (xor b1 c2) in
    a2 ∷ b2 ∷ c2 ∷ d2 ∷ []

-- the words at i, j, k, l of the state replaced by those of q
unfoldable pub put : List ℕ → (i j k l : ℕ) → List ℕ → List ℕ
put v i j k l q = slice_set (slice_set (slice_set (slice_set v i (at q 0)) j (at q 1)) k (at q 2)) l (at q 3)

-- the quarter-round on the words at i, j, k, l of the state
unfoldable pub mix : List ℕ → (i j k l x y : ℕ) → List ℕ
mix v i j k l x y = put v i j k l (quarter (at v i) (at v j) (at v k) (at v l) x y)

-- a round: the columns, then the diagonals
unfoldable pub round : List ℕ → List ℕ → List ℕ
round v m =
    let v1 = mix v 0 4 8 12 (at m 0) (at m 1) in
    let v2 = mix v1 1 5 9 13 (at m 2) (at m 3) in
    let v3 = mix v2 2 6 10 14 (at m 4) (at m 5) in
    let v4 = mix v3 3 7 11 15 (at m 6) (at m 7) in
    let v5 = mix v4 0 5 10 15 (at m 8) (at m 9) in
    let v6 = mix v5 1 6 11 12 (at m 10) (at m 11) in
    let v7 = mix v6 2 7 8 13 (at m 12) (at m 13) in
    mix v7 3 4 9 14 (at m 14) (at m 15)

-- the order in which the next round takes the words of the message
abbrev pub permute : List ℕ → List ℕ
permute m = map (at m) (2 ∷ 6 ∷ 3 ∷ 10 ∷ 7 ∷ 0 ∷ 4 ∷ 13 ∷ 1 ∷ 11 ∷ 12 ∷ 5 ∷ 9 ∷ 14 ∷ 15 ∷ 8 ∷ [])

-- n rounds, each with the message permuted once more
unfoldable pub rounds : ℕ → List ℕ → List ℕ → List ℕ
rounds zero v m = v
rounds (suc n) v m = rounds n (round v m) (permute m)

-- the first 32 bits of the fractional parts of the square roots of the first eight primes
abbrev pub iv : List ℕ
iv = 0x6A09E667 ∷ 0xBB67AE85 ∷ 0x3C6EF372 ∷ 0xA54FF53A ∷ 0x510E527F ∷ 0x9B05688C ∷ 0x1F83D9AB ∷ 0x5BE0CD19 ∷ []

-- the state that compression starts from: chaining value h, counter t, the block's length, flags
abbrev pub start : List ℕ → (t len flags : ℕ) → List ℕ
start h t len flags =
    at h 0 ∷ at h 1 ∷ at h 2 ∷ at h 3 ∷ at h 4 ∷ at h 5 ∷ at h 6 ∷ at h 7
    ∷ at iv 0 ∷ at iv 1 ∷ at iv 2 ∷ at iv 3 ∷ t % 2 ^ 32 ∷ t / 2 ^ 32 ∷ len ∷ flags ∷ []

-- the two halves of the state combined, word by word
abbrev pub fold : List ℕ → List ℕ
fold v =
    xor (at v 0) (at v 8) ∷ xor (at v 1) (at v 9) ∷ xor (at v 2) (at v 10) ∷ xor (at v 3) (at v 11)
    ∷ xor (at v 4) (at v 12) ∷ xor (at v 5) (at v 13) ∷ xor (at v 6) (at v 14) ∷ xor (at v 7) (at v 15) ∷ []

-- the compression function's first eight words
unfoldable pub compress : List ℕ → List ℕ → (t len flags : ℕ) → List ℕ
compress h m t len flags = fold (rounds 7 (start h t len flags) m)

-- the flags of a compression: first and last block of a chunk, parent node, root of the tree
abbrev pub chunk_start : ℕ
chunk_start = 1

abbrev pub chunk_end : ℕ
chunk_end = 2

abbrev pub parent_flag : ℕ
parent_flag = 4

abbrev pub root_flag : ℕ
root_flag = 8
