-- The digits that the library hex writes are ours.
use Prim.Native.Nat.{ℕ, zero, suc, ◌+◌, ◌*◌, ◌-◌, ◌/◌, ◌%◌, ◌<◌, ◌≤◌}
use mathlib.Core.Bool.{Bool, true, ◌&&◌}
use mathlib.Core.Logic.{inl, inr}
use mathlib.Core.List.{List, [], ◌∷◌, append_assoc}
use mathlib.Core.Path.{◌≡◌, refl, sym}
use native.Mathlib.Omega.{arith}
use borrow.Rule.Slice.PartMut.{put_mid}
use lib.Dec.{eqb}
use lib.ListN.{length, get_or, take, drop}
use lib.Seq.{drop-drop}
use Rattle.std.specs.Prelude.{Result, Ok, Err, IsOk, OnOk}
use Rattle.std.proofs.lemmas.Bool.{and_parts, cases_lt, eqb-true}
use Rattle.hex.specs.Hex.{lower_digits, encode_with, encode_lower}
use Rattle.lent.specs.Output.{Wrote}
use Rattle.text.specs.Text.{hex_digit, hexes}
use Rattle.text.proofs.Parts.{hexes_length}

-- the first n digits
abbrev same_digits : ℕ → Bool
same_digits zero = true
same_digits (suc n) = eqb (get_or lower_digits n 0) (hex_digit n) && same_digits n

digit-below : (n d : ℕ) → same_digits n ≡ true → d < n → get_or lower_digits d 0 ≡ hex_digit d
digit-below zero d h l = absurd (omega arith)
digit-below (suc n) d h l =
    let parts = and_parts (eqb (get_or lower_digits n 0) (hex_digit n)) (same_digits n) h in
    elim (cases_lt d n) [
      | inl below ↦ digit-below n d parts.1 below
      | inr top ↦
          let e : d ≡ n = omega arith in
          rw e (eqb-true (get_or lower_digits n 0) (hex_digit n) parts.0)
    ]

std_digit : (d : ℕ) → d < 16 → get_or lower_digits d 0 ≡ hex_digit d
std_digit d h = digit-below 16 d refl h

pub std_hexes : (bs : List ℕ) → ((i : ℕ) → get_or bs i 0 < 256) → encode_lower bs ≡ hexes bs
unfolding encode_with hexes
std_hexes [] h = refl
std_hexes (b ∷ bs) h = rw (std_digit (b / 16) (omega (arith, h 0)), std_digit (b % 16) (omega arith), std_hexes bs (λ i. h (suc i)))

pub on_ok : {T E P : Type 0} (r : Result T E) → IsOk r → OnOk r P → P
on_ok (Ok x) h p = p
on_ok (Err e) h p = let z : ◌≡◌ {A = ℕ} 0 1 = cc in absurd (omega arith)

-- the buffer with them
pub wrote_hexes : (a : List ℕ) (at : ℕ) (bs t : List ℕ) → at + length (hexes bs) ≤ length a → t ≡ encode_lower bs → ((i : ℕ) → get_or bs i 0 < 256)
    → Wrote a at (hexes bs) (put_mid at (at + 2 * length bs - at) a t) (at + 2 * length bs)
wrote_hexes a at bs t h w b =
    let l = hexes_length bs in
    let k : at + (at + 2 * length bs - at) ≡ at + length (hexes bs) = omega arith in
    record { fits = h; next = omega arith; buffer = rw (w, std_hexes bs b, drop-drop (at + 2 * length bs - at) at a, k) (sym (append_assoc (take at a) (hexes bs) (drop (at + length (hexes bs)) a))) }
