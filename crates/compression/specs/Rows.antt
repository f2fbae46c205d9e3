-- The steps of a round on rows of the state, on four words at a time.
use Rattle.std.specs.Prelude.{ℕ, List, [], ◌∷◌}
use Rattle.compression.specs.Word.{add32, xor, rotr}
use Rattle.compression.specs.Compression.{at}

-- four words, by their places
abbrev pub row : (ℕ → ℕ) → List ℕ
row f = f 0 ∷ f 1 ∷ f 2 ∷ f 3 ∷ []

-- a + b
unfoldable pub sum : List ℕ → List ℕ → List ℕ
sum a b = row (λ i. add32 (at a i) (at b i))

-- a + b + x
abbrev pub sum3 : List ℕ → List ℕ → List ℕ → List ℕ
sum3 a b x = sum (sum a b) x

-- the exclusive or of a and b, each word rotated by n
unfoldable pub turn : ℕ → List ℕ → List ℕ → List ℕ
turn n a b = row (λ i. rotr n (xor (at a i) (at b i)))

-- the state with the rows a, b, c, d
abbrev pub square : (a b c d : List ℕ) → List ℕ
square a b c d =
    at a 0 ∷ at a 1 ∷ at a 2 ∷ at a 3 ∷ at b 0 ∷ at b 1 ∷ at b 2 ∷ at b 3
    ∷ at c 0 ∷ at c 1 ∷ at c 2 ∷ at c 3 ∷ at d 0 ∷ at d 1 ∷ at d 2 ∷ at d 3 ∷ []

-- the words of l at four places
abbrev pub four : List ℕ → (i j k n : ℕ) → List ℕ
four l i j k n = at l i ∷ at l j ∷ at l k ∷ at l n ∷ []

-- four quarter-rounds side by side, on the columns of the state v, with the words x and y of the message
unfoldable pub half : (v x y : List ℕ) → List ℕ
half v x y =
    let b = four v 4 5 6 7 in
    let a1 = sum3 (four v 0 1 2 3) b x in
    let d1 = turn 16 (four v 12 13 14 15) a1 in
    let c1 = sum (four v 8 9 10 11) d1 in
    let b1 = turn 12 b c1 in
    let a2 = sum3 a1 b1 y in
    let d2 = turn 8 d1 a2 in
    let c2 = sum c1 d2 in
    let b2 = turn 7 b1 c2 in
    square a2 b2 c2 d2

-- the rows below the first shifted by 1, 2 and 3 places, which makes columns of the diagonals, and shifted back
unfoldable pub shifted : List ℕ → List ℕ
shifted v = square (four v 0 1 2 3) (four v 5 6 7 4) (four v 10 11 8 9) (four v 15 12 13 14)

unfoldable pub back : List ℕ → List ℕ
back v = square (four v 0 1 2 3) (four v 7 4 5 6) (four v 10 11 8 9) (four v 13 14 15 12)
