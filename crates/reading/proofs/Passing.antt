-- Passing over items: the laws of `Goes`. A loop over a table keeps `Passed`, and needs only its four laws.
use mathlib.Core.Path.{◌≡◌, refl, subst}
use mathlib.Core.List.{List, [], ◌∷◌}
use Prim.Native.Nat.{ℕ, suc, ◌+◌, ◌-◌, ◌≤◌, ◌<◌}
use native.Mathlib.Nat.{sub-zero}
use native.Mathlib.Omega.{arith}
use lib.ListN.{length, drop, length-drop}
use Rattle.reading.specs.Fault.{Fault, short_input}
use Rattle.reading.specs.Numbers.{le_at}
use Rattle.reading.specs.Reader.{fault, got, Reader, many, counted}
use Rattle.reading.specs.Places.{Step, Reads, Way, stops_by, on_to, Goes}
use Rattle.reading.proofs.Reading.{number_at, number_short}

module _ {A : Type 0} (r : Reader A) (s : List ℕ) where
  -- `i` of `n` items are passed, and the next stands at `p`: what the rest does from there, all do from `at`
  pub record Passed (n at i p : ℕ) : Type 0 where
    pub within : p ≤ length s
    pub most : i ≤ n
    pub rest : (w : Way) → Goes (many (n - i) r) s p w → Goes (many n r) s at w

  pub passed_none : (n at : ℕ) → at ≤ length s → Passed n at 0 at
  passed_none n at h = record { within = h; most = omega arith; rest = λ w g. rw (sub-zero n) at g }

  pub passed-all : (n at i p : ℕ) → n ≤ i → Passed n at i p → Goes (many n r) s at (on_to p)
  passed-all n at i p h k = let z : n - i ≡ 0 = omega arith in k.rest (on_to p) (k.within, ([], rw z))

  pub passed-stop : (n at i p : ℕ) (f : Fault) → i < n → Passed n at i p → r (drop p s) ≡ fault f → many n r (drop at s) ≡ fault f
  passed-stop n at i p f h k e = let z : n - i ≡ suc (n - (i + 1)) = omega arith in k.rest (stops_by f) (rw (z, e))

  pub passed-more : (n at i p : ℕ) (a : A) (m : ℕ) → i < n → Passed n at i p → m ≤ length s → r (drop p s) ≡ got a (drop m s) → Passed n at (i + 1) m
  passed-more n at i p a m h k l e = record { within = l; most = omega arith; rest = λ w g. k.rest w (go w g) }
    where
      z : n - i ≡ suc (n - (i + 1))
      z = omega arith

      go : (w : Way) → Goes (many (n - (i + 1)) r) s m w → Goes (many (n - i) r) s p w
      go (stops_by f) g = rw (z, e, g)
      go (on_to k) g = (g.0, (a ∷ g.1.0, rw (z, e, g.1.1)))

  -- a table with its count in front
  pub counted-short : (at : ℕ) → length s - at < 2 → counted r (drop at s) ≡ fault short_input
  counted-short at h = let l = length-drop at s in rw (number_short 2 (drop at s) (omega arith))

  pub counted-as : (at n : ℕ) → at + 2 ≤ length s → n ≡ le_at 2 s at → counted r (drop at s) ≡ many n r (drop (at + 2) s)
  counted-as at n h e = rw (number_at 2 s at (at + 2) refl h, e)

pub reads-told : {A : Type 0} (r : Reader A) (s : List ℕ) (at : ℕ) {v w : Step A} → v ≡ w → Reads r s at v → Reads r s at w
reads-told r s at e g = subst (λ x. Reads r s at x) e g
