-- The laws of numbers written low byte first, over any width.
use Prim.Native.Nat.{ℕ, zero, suc, ◌+◌, ◌*◌, ◌-◌, ◌/◌, ◌%◌, ◌^◌, ◌≤◌, ◌<◌}
use native.Mathlib.Nat.{pow-succ', mul_assoc}
use native.Mathlib.Numerals.{sub-one}
use native.Mathlib.Omega.{arith}
use mathlib.Core.Path.{◌≡◌, refl, ap, ◌∙◌}
use mathlib.Core.List.{List, [], ◌∷◌, ◌++◌}
use lib.ListN.{length, take, drop, get_or, replicate}
use lib.Seq.{drop-cons, get_or-drop, take-nil}
use Rattle.std.specs.Int.{byte_at, bytes_low_first}
use Rattle.std.proofs.Math.Nat.{div-div-eq-div-mul}
use Rattle.reading.specs.Numbers.{le, le_at, bytes_le}

-- the bytes behind the first `length a` weigh 256 to that power
pub le-append : (a b : List ℕ) → le (a ++ b) ≡ le a + 256 ^ length a * le b
unfolding le
le-append [] b = omega arith
le-append (x ∷ a) b =
    let ih = le-append a b in
    let e : 256 ^ suc (length a) * le b ≡ 256 * (256 ^ length a * le b) = rw (pow-succ', mul_assoc) in
    omega arith

pub le_at_one : (s : List ℕ) (at : ℕ) → at < length s → le_at 1 s at ≡ get_or s at 0
unfolding le
le_at_one s at h = rw (drop-cons s at 0 h) (omega arith)

-- and so on, byte for byte
pub le_at_next : (k : ℕ) (s : List ℕ) (at next : ℕ) → 0 < k → at < length s → next ≡ at + 1 → le_at k s at ≡ get_or s at 0 + 256 * le_at (k - 1) s next
unfolding le
le_at_next zero s at next p h e = absurd (omega arith)
le_at_next (suc k) s at next p h e = let e' : next ≡ suc at = omega arith in rw (drop-cons s at 0 h, e', sub-one)

-- zeros at the end change nothing
pub le-zeros : (n : ℕ) → le (replicate n 0) ≡ 0
unfolding le
le-zeros zero = refl
le-zeros (suc n) = let ih = le-zeros n in omega arith

-- every element is a byte, and so it is in every part
abbrev pub Bytes : List ℕ → Type 0
Bytes l = (i : ℕ) → get_or l i 0 < 256

bytes_take : (n : ℕ) (l : List ℕ) → Bytes l → Bytes (take n l)
bytes_take zero l h i = omega arith
bytes_take (suc n) [] h i = omega arith
bytes_take (suc n) (b ∷ l) h zero = h 0
bytes_take (suc n) (b ∷ l) h (suc i) = bytes_take n l (λ j. h (suc j)) i

pub bytes_drop : (s : List ℕ) (a : ℕ) → Bytes s → Bytes (drop a s)
bytes_drop s a h j = rw get_or-drop (h (a + j))

pub bytes-part : (s : List ℕ) (a n : ℕ) → Bytes s → Bytes (take n (drop a s))
bytes-part s a n h = bytes_take n (drop a s) (bytes_drop s a h)

pub le-take-fill : (w : ℕ) (l : List ℕ) (n : ℕ) → le (take w (l ++ replicate n 0)) ≡ le (take w l)
unfolding le
le-take-fill zero l n = refl
le-take-fill (suc w) [] zero = refl
le-take-fill (suc w) [] (suc n) = let ih = le-take-fill w [] n in omega (arith, ap le (take-nil {A = ℕ} w))
le-take-fill (suc w) (b ∷ l) n = let ih = le-take-fill w l n in omega arith

-- bytes that are at most k make a number below 256 to that power
pub le-fits : (k : ℕ) (l : List ℕ) → Bytes l → length l ≤ k → le l < 256 ^ k
unfolding le
le-fits zero [] h g = omega arith
le-fits zero (b ∷ bs) h g = absurd (omega arith)
le-fits (suc k) [] h g =
    let ih = le-fits k [] h (omega arith) in
    let e : 256 ^ suc k ≡ 256 * 256 ^ k = rw pow-succ' in
    omega arith
le-fits (suc k) (b ∷ bs) h g =
    let ih = le-fits k bs (λ i. h (suc i)) (omega arith) in
    let e : 256 ^ suc k ≡ 256 * 256 ^ k = rw pow-succ' in
    omega (arith, h 0)

pub bytes-length : (w n : ℕ) → length (bytes_le w n) ≡ w
unfolding bytes_le
bytes-length zero n = refl
bytes-length (suc w) n = ap suc (bytes-length w (n / 256))

-- a number taken apart into bytes and put together again
pub le-all : (w n : ℕ) → n < 256 ^ w → le (bytes_le w n) ≡ n
unfolding bytes_le le
le-all zero n h = omega arith
le-all (suc w) n h =
    let e : 256 ^ suc w ≡ 256 * 256 ^ w = rw pow-succ' in
    let ih = le-all w (n / 256) (omega arith) in
    omega arith

-- the bytes that std's `to_le_bytes` gives
byte-is : (i n : ℕ) → byte_at i n ≡ n / 256 ^ i % 256
byte-is zero n = omega arith
byte-is (suc i) n = refl

bytes-low : (i k n : ℕ) → bytes_low_first i k n ≡ bytes_le k (n / 256 ^ i)
unfolding bytes_le
bytes-low i zero n = refl
bytes-low i (suc k) n =
    let p : 256 ^ suc i ≡ 256 ^ i * 256 = omega (arith, pow-succ' 256 i) in
    let e : n / 256 ^ suc i ≡ n / 256 ^ i / 256 = rw (div-div-eq-div-mul, p) in
    rw (byte-is i n, bytes-low (suc i) k n, e)

pub bytes_le_is : (k n : ℕ) → bytes_low_first 0 k n ≡ bytes_le k n
bytes_le_is k n = let e : n / 256 ^ 0 ≡ n = omega arith in bytes-low 0 k n ∙ ap (bytes_le k) e
