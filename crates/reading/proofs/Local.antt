-- A reader is local: what it gives depends on the bytes that it takes, and on none behind them. Closed under `do`; for a section read out of a
-- longer list, and for bytes added behind what was read.
use mathlib.Core.Path.{◌≡◌, sym, ap, ◌∙◌}
use mathlib.Core.Bool.{Bool, true, false}
use mathlib.Core.List.{List, [], ◌++◌, append_assoc}
use Prim.Native.Nat.{ℕ, zero, suc, ◌≤◌}
use native.Mathlib.Decide.{dec_le}
use native.Mathlib.Omega.{arith}
use lib.ListN.{length, take, drop, take-append-drop, length-append}
use lib.Seq.{length-take-le, take_at, drop_at}
use borrow.Author.Tests.{le-ltb}
use Rattle.reading.specs.Fault.{Fault}
use Rattle.reading.specs.Numbers.{le}
use Rattle.reading.specs.Reader.{got, Reader, ◌>>=◌, give, check, bytes, number, many, counted}
use Rattle.reading.proofs.Reading.{never, both, bytes-short}

-- the bytes that `r` takes off `s` to give `a` and leave `t`: before anything else they give `a` and leave that
pub record Taken {A : Type 0} (r : Reader A) (s : List ℕ) (a : A) (t : List ℕ) : Type 0 where
  pub front : List ℕ
  pub split : s ≡ front ++ t
  pub again : (u : List ℕ) → r (front ++ u) ≡ got a u

pub record Local {A : Type 0} (r : Reader A) : Type 0 where
  pub taken : (s : List ℕ) (a : A) (t : List ℕ) → r s ≡ got a t → Taken r s a t

pub local-give : {A : Type 0} (a : A) → Local (give a)
local-give a = record { taken = λ s b t e. record { front = []; split = cc; again = λ u. cc } }

pub local-check : (ok : Bool) (f : Fault) → Local (check ok f)
local-check true f = record { taken = λ s b t e. record { front = []; split = cc; again = λ u. cc } }
local-check false f = record { taken = λ s b t e. never e }

pub local-bind : {A B : Type 0} {r : Reader A} {go : A → Reader B} → Local r → ((a : A) → Local (go a)) → Local (r >>= go)
local-bind {A} {B} {r} {go} hr hg =
    record {
      taken = λ s b t e.
          let k = both (r s) e in
          let p = hr.taken s k.item k.middle k.first in
          let q = (hg k.item).taken k.middle b t k.second in
          record {
            front = p.front ++ q.front;
            split = p.split ∙ ap (λ x. p.front ++ x) q.split ∙ sym (append_assoc p.front q.front t);
            again = λ u. rw (append_assoc p.front q.front u, p.again (q.front ++ u)) (q.again u);
          };
    }

pub local-bytes : (n : ℕ) → Local (bytes n)
unfolding bytes
local-bytes n = record { taken = λ s b t e. go s b t e (dec_le n (length s)) }
  where
    go : (s b t : List ℕ) → bytes n s ≡ got b t → Dec (n ≤ length s) → Taken (bytes n) s b t
    go s b t e (yes i) =
        let l = length-take-le n s i in
        let x : got (take n s) (drop n s) ≡ got b t = rw (le-ltb (length s) n i) at e in
        let y : take n s ≡ b = cc in
        let z : drop n s ≡ t = cc in
        record {
          front = b;
          split = sym (take-append-drop n s) ∙ ap (λ v. v ++ drop n s) y ∙ ap (λ v. b ++ v) z;
          again = λ u.
              let k : length b ≡ n = sym (ap length y) ∙ l in
              rw (le-ltb (length (b ++ u)) n (omega (arith, length-append b u)), ← k, take_at b u, drop_at b u);
        }
    go s b t e (no i) = never (sym (bytes-short n s (omega arith)) ∙ e)

pub local-number : (n : ℕ) → Local (number n)
local-number n = local-bind (local-bytes n) (λ b. local-give (le b))

pub local-many : {A : Type 0} (n : ℕ) {r : Reader A} → Local r → Local (many n r)
local-many zero h = local-give []
local-many (suc n) h = local-bind h (λ a. local-bind (local-many n h) (λ xs. local-give _))

pub local_counted : {A : Type 0} {r : Reader A} → Local r → Local (counted r)
local_counted h = local-bind (local-number 2) (λ n. local-many n h)
