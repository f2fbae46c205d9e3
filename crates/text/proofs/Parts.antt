-- The parts of texts, and how long they are.
use Prim.Native.Nat.{ℕ, zero, suc, ◌+◌, ◌*◌, ◌/◌, ◌%◌, ◌<◌, ◌≤◌, ◌^◌}
use mathlib.Core.Path.{◌≡◌, refl, sym, ◌∙◌, ap}
use mathlib.Core.Bool.{Bool, true, false, cond}
use mathlib.Core.List.{List, [], ◌∷◌, ◌++◌, append-nil, append_assoc}
use native.Mathlib.Omega.{arith}
use native.Mathlib.Numerals.{add-one}
use native.Mathlib.Nat.{pow-succ'}
use borrow.Author.Tests.{lt-ltb, le-ltb, ltb-true, ltb-false}
use Prim.Native.Char.{code}
use lib.Dec.{ltb}
use lib.ListN.{length, get_or, take, drop, length-append, take-append-drop}
use lib.Seq.{split_at, take-suc}
use Rattle.std.specs.Fmt as fmt
use Rattle.std.proofs.lemmas.Fmt as fmt_lemmas
use Rattle.lent.specs.Output.{Wrote}
use Rattle.text.specs.Text.{ascii, digits, decimal, numbers, hexes, hex_or_dash, ended, bytes_line}

-- Decimal

pub digits-one : (k n : ℕ) → n < 10 → digits (suc k) n ≡ (code "0" + n) ∷ []
unfolding digits
digits-one k n h = simp (lt-ltb n 10 h)

pub digits_more : (k n : ℕ) → 10 ≤ n → digits (suc k) n ≡ digits k (n / 10) ++ ((code "0" + n % 10) ∷ [])
unfolding digits
digits_more k n h = simp (le-ltb n 10 h)

-- the digits that std writes
std-digits : (z : Bool) (k n : ℕ) → ltb n 10 ≡ z → n < 2 ^ 64 → (10 ≤ n → digits k (n / 10) ≡ fmt.decimal (n / 10)) → digits (suc k) n ≡ fmt.decimal n
std-digits true k n e h rest = let l = ltb-true n 10 e in digits-one k n l ∙ sym (fmt_lemmas.decimal_digit n l)
std-digits false k n e h rest = let l = ltb-false n 10 e in rw (digits_more k n l, rest l) (sym (fmt_lemmas.decimal_step n l h))

all-digits : (k n : ℕ) → 0 < k → n < 10 ^ k → n < 2 ^ 64 → digits k n ≡ fmt.decimal n
all-digits zero n p q h = absurd (omega arith)
all-digits (suc zero) n p q h = std-digits (ltb n 10) zero n refl h (λ l. absurd (omega arith))
all-digits (suc (suc k)) n p q h =
    std-digits (ltb n 10) (suc k) n refl h (λ l. all-digits (suc k) (n / 10) (omega arith) (omega (arith, pow-succ' 10 (suc k))) (omega arith))

pub std_decimal : (n : ℕ) → n < 2 ^ 64 → fmt.decimal n ≡ decimal n
std_decimal n h = sym (all-digits 20 n (omega arith) (omega arith) h)

ten-power : (m : ℕ) → 0 < 10 ^ m
ten-power zero = omega arith
ten-power (suc m) = omega (arith, ten-power m, pow-succ' 10 m)

-- digits that end where the place and their length say stand at that place
pub wrote_before_end : {a b t u : List ℕ} {at end : ℕ} (r : ℕ) → u ≡ t → at + length t ≤ length a → end ≡ at + length t → r + length u ≡ end
    → drop r b ≡ u ++ drop end a → take r b ≡ take r a → Wrote a at t b end
wrote_before_end {a} {b} {t} {u} {at} {end} r e h l s d k =
    let n = ap length e in
    let o : r ≡ at = omega arith in
    record {
      fits = h;
      next = l;
      buffer = sym (take-append-drop r b) ∙ rw (d, k, o, e, l) (sym (append_assoc (take at a) t (drop (at + length t) a)));
    }

-- how many digits there are: one more than tens in the largest power of ten that is not above the number
pub digits-many : (k m n : ℕ) → m < k → 10 ^ m ≤ n → n < 10 * 10 ^ m → length (digits k n) ≡ m + 1
digits-many zero m n h l g = absurd (omega arith)
digits-many (suc k) zero n h l g = ap length (digits-one k n (omega arith))
digits-many (suc k) (suc m) n h l g =
    let p = pow-succ' 10 m in
    let one = (code "0" + n % 10) ∷ [] in
    omega (arith, ap length (digits_more k n (omega (arith, ten-power m))), length-append (digits k (n / 10)) one, digits-many k m (n / 10) (omega arith) (omega arith) (omega arith))

pub either-short : (z : Bool) (k : ℕ) (s t : List ℕ) → length s ≤ k → length t ≤ k → length (cond z s t) ≤ k
either-short true k s t h h' = h
either-short false k s t h h' = h'

pub digits-short : (k n : ℕ) → length (digits k n) ≤ k
unfolding digits
digits-short zero n = omega arith
digits-short (suc k) n = either-short (ltb n 10) (suc k) _ _ (omega arith) (omega (arith, digits-short k (n / 10), length-append (digits k (n / 10)) ((code "0" + n % 10) ∷ [])))

pub numbers-append : (ms ns : List ℕ) → numbers (ms ++ ns) ≡ numbers ms ++ numbers ns
unfolding numbers
numbers-append [] ns = refl
numbers-append (m ∷ ms) ns = rw (numbers-append ms ns) (sym (append_assoc (ascii " " ++ decimal m) (numbers ms) (numbers ns)))

pub numbers-snoc : (ns : List ℕ) (n : ℕ) → numbers (ns ++ (n ∷ [])) ≡ numbers ns ++ (ascii " " ++ decimal n)
unfolding numbers
numbers-snoc ns n = numbers-append ns (n ∷ []) ∙ rw append-nil

-- one number more
pub numbers-next : (ns : List ℕ) (i : ℕ) → i < length ns → length (numbers (take (i + 1) ns)) ≡ length (numbers (take i ns)) + (1 + length (decimal (get_or ns i 0)))
numbers-next ns i h =
    let n = get_or ns i 0 in
    let front = take i ns in
    rw (add-one, take-suc ns i 0 h) (ap length (numbers-snoc front n) ∙ length-append (numbers front) (ascii " " ++ decimal n) ∙ omega arith)

-- the first i numbers and the next one are a part of the whole
pub numbers_part : (ns : List ℕ) (i : ℕ) → i < length ns → length (numbers (take i ns)) + 1 + length (decimal (get_or ns i 0)) ≤ length (numbers ns)
unfolding numbers
numbers_part ns i h =
    let n = get_or ns i 0 in
    let front = take i ns in
    let rest = drop (suc i) ns in
    omega (
      arith,
      ap (λ (ms : List ℕ). length (numbers ms)) (split_at ns i 0 h),
      ap length (numbers-append front (n ∷ rest)),
      length-append (numbers front) ((ascii " " ++ decimal n) ++ numbers rest),
      length-append (ascii " " ++ decimal n) (numbers rest),
    )

pub numbers_short : (ns : List ℕ) → length (numbers ns) ≤ 21 * length ns
unfolding numbers
numbers_short [] = omega arith
numbers_short (n ∷ ns) = omega (arith, digits-short 20 n, numbers_short ns, length-append (ascii " " ++ decimal n) (numbers ns))

-- Hexadecimal

pub hexes-append : (xs ys : List ℕ) → hexes (xs ++ ys) ≡ hexes xs ++ hexes ys
unfolding hexes
hexes-append [] ys = refl
hexes-append (x ∷ xs) ys = rw (hexes-append xs ys)

pub hexes_length : (bs : List ℕ) → length (hexes bs) ≡ 2 * length bs
unfolding hexes
hexes_length [] = refl
hexes_length (b ∷ bs) = omega (arith, hexes_length bs)

pub hex_none : (bs : List ℕ) → length bs ≡ 0 → hex_or_dash bs ≡ ascii "-"
hex_none [] e = refl
hex_none (b ∷ bs) e = absurd (omega arith)

pub hex_some : (bs : List ℕ) → (length bs ≡ 0 → ⊥) → hex_or_dash bs ≡ hexes bs
hex_some [] h = absurd (h refl)
hex_some (b ∷ bs) h = refl

pub hex_least : (bs : List ℕ) → 2 * length bs ≤ length (hex_or_dash bs)
hex_least [] = omega arith
hex_least (b ∷ bs) = omega (arith, hexes_length (b ∷ bs))

pub hex_most : (bs : List ℕ) (n : ℕ) → 1 ≤ n → 2 * length bs ≤ n → length (hex_or_dash bs) ≤ n
hex_most [] n h h' = h
hex_most (b ∷ bs) n h h' = omega (arith, hexes_length (b ∷ bs))

-- Lines

pub ended_length : (word ns end : List ℕ) → length (ended word ns end) ≡ length word + length (numbers ns) + length end
ended_length word ns end = omega (arith, length-append (word ++ numbers ns) end, length-append word (numbers ns))

pub bytes_line_length : (word ns bs : List ℕ) → length (bytes_line word ns bs) ≡ length word + length (numbers ns) + (length (hex_or_dash bs) + 2)
bytes_line_length word ns bs =
    omega (
      arith,
      length-append (ended word ns (ascii " ") ++ hex_or_dash bs) (ascii "\n"),
      length-append (ended word ns (ascii " ")) (hex_or_dash bs),
      ended_length word ns (ascii " "),
    )
