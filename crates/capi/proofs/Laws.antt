-- A lookup over numbers that stand for a record.
use Prim.Native.Nat.{ℕ}
use mathlib.Core.Path.{◌≡◌, refl, sym, ap, ◌∙◌}
use mathlib.Core.List.{List, ◌∷◌, ◌++◌, append_assoc}
use mathlib.Core.Option.{Option}
use native.Mathlib.Omega.{arith}
use lib.ListN.{length, take}
use lib.Seq.{take-append-le, take_all}
use Rattle.reading.specs.Fault.{Fault}
use Rattle.reading.specs.Answer.{refused, found}
use Rattle.format.specs.Record.{Container, read_from}
use Rattle.format.proofs.Answers.{never}
use Rattle.blake3.specs.Blake3.{blake3}
use Rattle.lookup_kinds.specs.Kinds.{looked_up}
use Rattle.lookup_kinds.proofs.Laws as kinds
use Rattle.record_numbers.specs.ToNumbers.{in_force_numbers, lookup_numbers, record_numbers}
use Rattle.record_numbers.specs.FromNumbers.{number_count}
use Rattle.record_numbers.specs.Laws.{kept_in_numbers, Fits}
use Rattle.record_numbers.proofs.Laws as numbers
use Rattle.capi.specs.Asked.{with_numbers, looked_up_in}
use Rattle.capi.specs.Laws.{Laws, AsAsked}
use Rattle.capi.proofs.Lookups.{ask-found, load_found}

rest-unread : (f : List ℕ) (r : Container) (kind i j : ℕ) → looked_up f (kept_in_numbers r) kind i j ≡ looked_up f r kind i j
rest-unread f r kind i j =
    (kinds.laws).same-lookups f (kept_in_numbers r) r
    (record { tasks = refl; types = refl; constants = refl; code = refl; debug = refl; functions = refl; has_types = refl; has_debug = refl }) kind i j

pub laws : Laws
laws = record { rest-unread = rest-unread }

-- over the numbers that stand for a record
over-numbers : (f : List ℕ) (r : Container) (more : List ℕ) → Fits r → (kind i j : ℕ) → looked_up_in f ((0 ∷ lookup_numbers r) ++ more) kind i j ≡ looked_up f r kind i j
unfolding looked_up_in
over-numbers f r more h kind i j =
    ap (λ (c : Option Container). with_numbers c (λ (d : Container). looked_up f d kind i j)) ((numbers.laws).comes_back r more h) ∙ rest-unread f r kind i j

-- which come first of all that loading writes
first-numbers : (r : Container) → take number_count (0 ∷ record_numbers r) ≡ 0 ∷ lookup_numbers r
first-numbers r =
    let n = ((numbers.laws).how-many r).0 in
    take-append-le number_count (0 ∷ lookup_numbers r) (in_force_numbers r.in_force) (omega arith) ∙ take_all number_count (0 ∷ lookup_numbers r) (omega arith)

module _ (f : List ℕ) where
  pub never-loads : (e : Fault) → refused e ≡ read_from blake3 f → AsAsked f
  never-loads d read =
      record {
        all = λ more c e kind i j. never (read ∙ e);
        first = λ more c e kind i j. never (read ∙ e);
        how-many = λ c e. never (read ∙ e);
      }

  pub loads : (n : Container) → found n ≡ read_from blake3 f → Fits n → AsAsked f
  loads n read h =
      let l = sym (load_found f n read) in
      record {
        all =
            λ more d e kind i j.
            ap (λ (ns : List ℕ). looked_up_in f (ns ++ more) kind i j) l
            ∙ ap (λ (ns : List ℕ). looked_up_in f ns kind i j) (append_assoc (0 ∷ lookup_numbers n) (in_force_numbers n.in_force) more)
            ∙ over-numbers f n (in_force_numbers n.in_force ++ more) h kind i j
            ∙ ask-found f n read kind i j;
        first =
            λ more d e kind i j.
            ap (λ (ns : List ℕ). looked_up_in f (ns ++ more) kind i j) (ap (take number_count) l ∙ first-numbers n)
            ∙ over-numbers f n more h kind i j
            ∙ ask-found f n read kind i j;
        how-many = λ d e. ap length l ∙ ((numbers.laws).how-many n).1;
      }
