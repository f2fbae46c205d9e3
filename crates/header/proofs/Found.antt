-- What is known of a file whose header is found.
use Prim.Native.Nat.{ℕ, ◌≤◌}
use native.Mathlib.Omega.{arith}
use mathlib.Core.Path.{◌≡◌, refl}
use mathlib.Core.Bool.{Bool, true, false}
use mathlib.Core.List.{List}
use lib.Dec.{leb, eqb}
use lib.ListN.{length}
use borrow.Author.Tests.{leb-true}
use Rattle.reading.specs.Fault.{short_input}
use Rattle.reading.specs.Numbers.{le_at}
use Rattle.reading.specs.Answer.{found, ◌>>◌, need}
use Rattle.format.specs.Faults.{invalid_magic, unsupported_version}
use Rattle.format.specs.Header.{Header, fields_of, header_of}

-- it has 256 bytes, and they hold its fields
pub record FoundIn (f : List ℕ) (h : Header) : Type 0 where
  pub long : 256 ≤ length f
  pub fields : h ≡ fields_of f

tested : (f : List ℕ) (h : Header) (a b c : Bool) → leb 256 (length f) ≡ a → found h ≡ (need a short_input >> (need b invalid_magic >> (need c unsupported_version >> found (fields_of f)))) → FoundIn f h
tested f h true true true l e = record { long = leb-true _ _ l; fields = cc }
tested f h true true false l e = let z : ◌≡◌ {A = ℕ} 0 1 = cc in absurd (omega arith)
tested f h true false c l e = let z : ◌≡◌ {A = ℕ} 0 1 = cc in absurd (omega arith)
tested f h false b c l e = let z : ◌≡◌ {A = ℕ} 0 1 = cc in absurd (omega arith)

pub header-found : (f : List ℕ) (h : Header) → found h ≡ header_of f → FoundIn f h
unfolding header_of
header-found f h e = tested f h (leb 256 (length f)) (eqb (le_at 4 f 0) 0x49504C43) (eqb (le_at 2 f 4) 4) refl e
