-- Laws of the definitions, for callers that do not unfold them.
use Rattle.std.specs.Prelude.{◌≡◌, ℕ, zero, suc, ◌+◌, ◌*◌, ◌<◌, ◌≤◌, List, [], ◌∷◌, ◌++◌, length, take, replicate, slice_index, refl}
use Rattle.std.proofs.Common.{sym, ap, ap₂, ◌∙◌, ⊎_elim, zero-add, le_of_eq, le_of_suc-le-suc, not-suc-le-zero, eq-or-lt_of_le, add-one, arith, length-append, take-suc, take_all}
use Rattle.std.proofs.Math.ListN.{get_or-append}
use Rattle.std.proofs.lemmas.List.{get_or_at}
use Rattle.std.proofs.Math.Seq.{drop-nil}
use Rattle.reading.specs.Numbers.{le, le_at}
use Rattle.reading.proofs.Le.{le-take-fill}
use Rattle.reading.proofs.Parts.{part-of-part}
use Rattle.compression.specs.Sizes.{block_len}
use Rattle.compression.specs.Word.{table, words}
use Rattle.compression.specs.Compression.{start, rounds, fold, compress}

-- ---- tables

pub length-table : (f : ℕ → ℕ) (n : ℕ) → length (table f n) ≡ n
unfolding table
length-table f zero = refl
length-table f (suc n) = length-append (table f n) (f n ∷ []) ∙ ap (λ (k : ℕ). k + 1) (length-table f n) ∙ add-one n

pub get_d-table : (f : ℕ → ℕ) (n i : ℕ) → i < n → slice_index (table f n) i ≡ f i
unfolding table
get_d-table f zero i h = absurd (not-suc-le-zero h)
get_d-table f (suc n) i h =
    ⊎_elim
    (λ (p : i ≡ n). rw p (get_or_at (table f n) (f n) [] 0 n (length-table f n)))
    (λ (p : i < n). get_or-append (table f n) _ 0 i (rw length-table p) ∙ get_d-table f n i p)
    (eq-or-lt_of_le (le_of_suc-le-suc h))

-- tables of functions that agree
pub table-ext : (f g : ℕ → ℕ) (n : ℕ) → ((i : ℕ) → i < n → f i ≡ g i) → table f n ≡ table g n
unfolding table
table-ext f g zero h = refl
table-ext f g (suc n) h = ap₂ (λ (k : List ℕ) (y : ℕ). k ++ (y ∷ [])) (table-ext f g n (λ i p. h i (omega arith))) (h n (omega arith))

-- the first n elements of a list
pub take-table : (l : List ℕ) (n : ℕ) → n ≤ length l → take n l ≡ table (λ i. slice_index l i) n
unfolding table
take-table l zero h = refl
take-table l (suc n) h = take-suc l n 0 h ∙ ap (λ (k : List ℕ). k ++ (slice_index l n ∷ [])) (take-table l n (omega arith))

-- a list of known length is the table of its elements; at a numeral it is written out
pub spread : (l : List ℕ) (n : ℕ) → length l ≡ n → l ≡ table (λ i. slice_index l i) n
spread l n e = sym (take_all n l (le_of_eq e)) ∙ take-table l n (omega arith)

-- ---- words

-- zeros after the end change no word
le_at-filled : (w k : ℕ) (l : List ℕ) (n : ℕ) → le_at w (l ++ replicate n 0) k ≡ le_at w l k
le_at-filled w zero l n = le-take-fill w l n
le_at-filled w (suc k) (x ∷ l) n = le_at-filled w k l n
le_at-filled w (suc k) [] zero = refl
le_at-filled w (suc k) [] (suc n) = le_at-filled w k [] n ∙ ap (λ (l : List ℕ). le (take w l)) (drop-nil {A = ℕ} k)

pub words-filled : (b : List ℕ) (n : ℕ) → words (b ++ replicate n 0) ≡ words b
unfolding words
words-filled b n = table-ext _ _ 16 (λ i h. le_at-filled 4 (4 * i) b n)

-- only the bytes of the first block matter
pub words_take : (b : List ℕ) → words (take block_len b) ≡ words b
unfolding words
words_take b = table-ext _ _ 16 (λ i h. ap le (rw zero-add at (part-of-part b 0 block_len (4 * i) 4 (omega arith))))

-- ---- compression, step by step

pub compressed : (h m : List ℕ) (t len flags : ℕ) {s v r : List ℕ} → s ≡ start h t len flags → v ≡ rounds 7 s m → r ≡ fold v → r ≡ compress h m t len flags
unfolding compress
compressed h m t len flags p q e = cc

-- ---- lengths

pub length-words : (b : List ℕ) → length (words b) ≡ 16
unfolding words
length-words b = length-table _ 16

pub length-compress : (h m : List ℕ) (t len flags : ℕ) → length (compress h m t len flags) ≡ 8
unfolding compress
length-compress h m t len flags = refl
