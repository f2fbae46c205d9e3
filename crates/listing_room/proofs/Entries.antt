-- The line of each kind of entry is paid for by the entry's bytes.
use Prim.Native.Nat.{ℕ, ◌+◌, ◌*◌, ◌-◌, ◌<◌, ◌≤◌}
use mathlib.Core.Path.{◌≡◌, refl}
use mathlib.Core.Bool.{Bool, true, false, cond}
use mathlib.Core.List.{List, [], ◌∷◌, ◌++◌}
use native.Mathlib.Omega.{arith}
use borrow.Author.Tests.{leb-true}
use lib.Dec.{leb}
use lib.ListN.{length, replicate, length-append, length-replicate}
use Rattle.reading.specs.Answer.{refused, found}
use Rattle.reading.proofs.Tables.{many-length}
use Rattle.format.specs.Faults.{size_overflow}
use Rattle.format.specs.Parts.{by_bytes}
use Rattle.format.specs.Tasks.{task, program}
use Rattle.format.specs.Types.{field, fb_type, stride_fits, array, user_fb}
use Rattle.format.specs.Constants as kept
use Rattle.format.specs.Constants.{is_number, kept_of, size_fits, constant}
use Rattle.format.specs.Code.{function}
use Rattle.format.specs.Debug.{line}
use Rattle.text.specs.Text.{ascii, ended, hex_or_dash}
use Rattle.text.proofs.Parts.{hex_most}
use Rattle.entry_lines.specs.Lines.{task_line, program_line, fb_type_line, field_line, sized_line, array_line, user_fb_line, kept_bytes, constant_line, function_line, line_line}
use Rattle.listing.specs.Listing.{each, fb_type_lines}
use Rattle.listing_room.proofs.Short.{Few, spaced, ended-few}
use Rattle.listing_room.proofs.Costs.{Costs, costs-give, costs-then, number-then, bytes-then, check-then, costs-left, costs-each}

-- a line whose numbers have as many digits as stand for them
short : (word ns ds : List ℕ) → Few ns ds → length (ended word ns (ascii "\n")) ≤ length word + spaced ds + 1
short word ns ds h = ended-few word ns (ascii "\n") ds h

pub costs-task : Costs 0 4 (λ t. length (task_line t)) task
unfolding task
costs-task =
    number-then 2 λ i a.
    number-then 2 λ p b.
    number-then 1 λ k c.
    number-then 1 λ f d.
    number-then 8 λ t e.
    number-then 2 λ v g.
    number-then 8 λ w h.
    number-then 2 λ m j.
    number-then 2 λ o l.
    bytes-then 4 λ r n.
    check-then (leb k 2) _ λ y.
    costs-give (omega (arith, short (ascii "task") (i ∷ p ∷ k ∷ f ∷ t ∷ v ∷ w ∷ m ∷ o ∷ []) (5 ∷ 5 ∷ 3 ∷ 3 ∷ 20 ∷ 5 ∷ 20 ∷ 5 ∷ 5 ∷ []) (omega arith)))

pub costs-program : Costs 0 4 (λ p. length (program_line p)) program
unfolding program
costs-program =
    number-then 2 λ i a.
    number-then 2 λ t b.
    number-then 2 λ e c.
    number-then 2 λ v d.
    number-then 2 λ n g.
    number-then 2 λ o h.
    number-then 2 λ m j.
    number-then 2 λ f l.
    costs-give (omega (arith, short (ascii "program") (i ∷ t ∷ e ∷ v ∷ n ∷ o ∷ m ∷ f ∷ []) (5 ∷ 5 ∷ 5 ∷ 5 ∷ 5 ∷ 5 ∷ 5 ∷ 5 ∷ []) (omega arith)))

costs-field : Costs 0 5 (λ f. length (field_line f)) field
unfolding field
costs-field =
    number-then 1 λ k a.
    number-then 1 λ x b.
    number-then 2 λ e c.
    check-then (leb k 10) _ λ y.
    costs-give (omega (arith, short (ascii "field") (k ∷ e ∷ []) (3 ∷ 5 ∷ []) (omega arith)))

-- an FB type with its fields
pub costs-fb_type : Costs 0 5 (λ b. length (fb_type_lines b)) fb_type
unfolding fb_type
costs-fb_type =
    number-then 2 λ i a.
    number-then 1 λ n b.
    number-then 1 λ x c.
    costs-then (costs-each field_line costs-field n) λ fs y.
    let l = many-length field n y.from fs y.rest y.reads in
    costs-give
    (omega (
      arith,
      short (ascii "fbtype") (i ∷ length fs ∷ []) (5 ∷ 3 ∷ []) (omega arith),
      length-append (fb_type_line (record { id = i; field_count = length fs })) (each field_line fs),
    ))

-- an array's size is below 2^32
sized-short : (z : Bool) (i k n e w : ℕ) → leb (n * w) 4294967295 ≡ z → i < 65536 → k < 256 → n < 4294967296 → e < 65536 → w < 4294967296
    → length (sized_line i (record { kind = k; elements = n; extra = e; stride = w }) (cond z (found (n * w)) (refused size_overflow))) ≤ 60
sized-short true i k n e w t h₀ h₁ h₂ h₃ h₄ =
    let l : n * w ≤ 4294967295 = leb-true (n * w) 4294967295 t in
    omega (arith, short (ascii "array") (i ∷ k ∷ n ∷ e ∷ w ∷ n * w ∷ []) (5 ∷ 3 ∷ 10 ∷ 5 ∷ 10 ∷ 10 ∷ []) (omega arith))
sized-short false i k n e w t h₀ h₁ h₂ h₃ h₄ =
    omega (arith, ended-few (ascii "array") (i ∷ k ∷ n ∷ e ∷ w ∷ []) (ascii " -\n") (5 ∷ 3 ∷ 10 ∷ 5 ∷ 10 ∷ []) (omega arith))

pub costs-array : (i : ℕ) → i < 65536 → Costs 0 5 (λ a. length (array_line i a)) array
unfolding array
costs-array i h =
    number-then 1 λ k a.
    number-then 1 λ x b.
    number-then 4 λ n c.
    number-then 2 λ e d.
    number-then 4 λ w g.
    check-then (stride_fits k e w) _ λ y.
    costs-give (omega (arith, sized-short (leb (n * w) 4294967295) i k n e w refl h (omega arith) (omega arith) (omega arith) (omega arith)))

pub costs-user_fb : Costs 0 5 (λ u. length (user_fb_line u)) user_fb
unfolding user_fb
costs-user_fb =
    number-then 2 λ i a.
    number-then 2 λ f b.
    number-then 2 λ v c.
    number-then 1 λ n d.
    number-then 1 λ x e.
    costs-give (omega (arith, short (ascii "userfb") (i ∷ f ∷ v ∷ n ∷ []) (5 ∷ 5 ∷ 5 ∷ 3 ∷ []) (omega arith)))

-- a number keeps eight bytes, and a string its own
kept-short : (kind : ℕ) (b : List ℕ) (behind : ℕ) → length (kept_bytes (kept_of by_bytes kind b behind)) ≤ 8 + length b
unfolding kept_of
kept-short kind b behind = go (is_number kind)
  where
    go : (z : Bool) → length (kept_bytes (cond z (kept.number (b ++ replicate (8 - length b) 0)) (kept.string b))) ≤ 8 + length b
    go true = omega (arith, length-append b (replicate (8 - length b) 0), length-replicate {A = ℕ} (8 - length b) 0)
    go false = omega arith

pub costs-constant : (i : ℕ) → i < 65536 → Costs 0 9 (λ c. length (constant_line i c)) (constant by_bytes)
unfolding constant
costs-constant i h =
    number-then 1 λ k a.
    number-then 1 λ x b.
    number-then 2 λ n c.
    check-then (leb k 7) _ λ y.
    check-then (size_fits k n) _ λ z.
    bytes-then n λ body d.
    costs-left λ s.
    let e = kept_bytes (kept_of by_bytes k body (length s)) in
    let l : k ≤ 7 = leb-true k 7 y in
    omega (
      arith,
      ended-few (ascii "constant") (i ∷ k ∷ []) (ascii " ") (5 ∷ 1 ∷ []) (omega arith),
      kept-short k body (length s),
      hex_most e (2 * length e + 1) (omega arith) (omega arith),
      length-append (ended (ascii "constant") (i ∷ k ∷ []) (ascii " ") ++ hex_or_dash e) (ascii "\n"),
      length-append (ended (ascii "constant") (i ∷ k ∷ []) (ascii " ")) (hex_or_dash e),
    )

pub costs-function : Costs 0 4 (λ f. length (function_line f)) function
unfolding function
costs-function =
    number-then 2 λ i a.
    number-then 4 λ o b.
    number-then 4 λ n c.
    number-then 2 λ t d.
    number-then 2 λ l e.
    number-then 2 λ p g.
    costs-give (omega (arith, short (ascii "function") (i ∷ o ∷ n ∷ t ∷ l ∷ p ∷ []) (5 ∷ 10 ∷ 10 ∷ 5 ∷ 5 ∷ 5 ∷ []) (omega arith)))

pub costs-line : Costs 0 4 (λ l. length (line_line l)) line
unfolding line
costs-line =
    number-then 2 λ f a.
    number-then 2 λ o b.
    number-then 2 λ i c.
    number-then 2 λ l d.
    number-then 2 λ n e.
    costs-give (omega (arith, short (ascii "line") (f ∷ o ∷ i ∷ l ∷ n ∷ []) (5 ∷ 5 ∷ 5 ∷ 5 ∷ 5 ∷ []) (omega arith)))
