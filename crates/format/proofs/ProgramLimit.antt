-- The programs' own limit: the length of the file decides.
use Prim.Native.Nat.{ℕ, ◌+◌, ◌<◌, ◌≤◌}
use mathlib.Core.Path.{◌≡◌, refl, sym, ap, ◌∙◌}
use mathlib.Core.Bool.{Bool, true, false}
use mathlib.Core.List.{List}
use native.Mathlib.Omega.{arith}
use borrow.Author.Tests.{leb-true, leb-false, le-leb, lt-leb}
use lib.Dec.{leb}
use lib.ListN.{length, take, length-take}
use lib.Seq.{take_all}
use Rattle.reading.specs.Answer.{Got, refused}
use Rattle.format.specs.Faults.{too_long}
use Rattle.format.specs.Parts.{program_limit}
use Rattle.format.specs.Record.{for_program}
use Rattle.format.specs.ProgramLimit.{ProgramLimit}

module _ {A : Type 0} (f : List ℕ) (x : Got A) where
  pub within-limit : length f ≤ program_limit → for_program f x ≡ x
  within-limit h = rw (le-leb (length f) program_limit h)

  pub above-limit : program_limit < length f → for_program f x ≡ refused too_long
  above-limit h = rw (lt-leb (length f) program_limit h)

read-on : {A : Type 0} (library : List ℕ → Got A) (f : List ℕ)
    → for_program (take (program_limit + 1) f) (library (take (program_limit + 1) f)) ≡ for_program f (library f)
read-on library f = go (leb (length f) program_limit) refl
  where
    go : (z : Bool) → leb (length f) program_limit ≡ z → for_program (take (program_limit + 1) f) (library (take (program_limit + 1) f)) ≡ for_program f (library f)
    go true e =
        let h = leb-true (length f) program_limit e in
        ap (λ (g : List ℕ). for_program g (library g)) (take_all (program_limit + 1) f (omega arith))
    go false e =
        let h = leb-false (length f) program_limit e in
        let l : program_limit < length (take (program_limit + 1) f) = simp length-take (omega arith) in
        above-limit (take (program_limit + 1) f) (library (take (program_limit + 1) f)) l ∙ sym (above-limit f (library f) h)

pub program-limit : {A : Type 0} (library : List ℕ → Got A) → ProgramLimit library
program-limit library =
    record {
      within = λ f h. within-limit f (library f) h;
      above = λ f h. above-limit f (library f) h;
      read-on = read-on library;
    }
