-- What each reader that keeps texts or strings leaves of a section is the rest of it, however they are kept.
use mathlib.Core.List.{List}
use Prim.Native.Nat.{ℕ, ◌-◌}
use lib.Dec.{leb}
use Rattle.utf8.specs.Utf8.{valid_up_to, utf8}
use Rattle.reading.specs.Fault.{bad_text}
use Rattle.reading.proofs.Local.{local-give, local-check, local-bytes, local-number}
use Rattle.reading.proofs.Left.{Stays, stays-local, stays-bind, stays-left, stays-counted}
use Rattle.format.specs.Faults.{invalid_constant_type}
use Rattle.format.specs.Parts.{Keep}
use Rattle.format.specs.Constants.{size_fits, kept_of, constant}
use Rattle.format.specs.Debug.{text, name, path, variable, function_name, source_file, enumeration}

module _ {T : Type 0} (keep : Keep T) (s : List ℕ) where
  pub stays-text : (n : ℕ) → Stays s (text keep n)
  unfolding text
  stays-text n =
      stays-bind s (stays-left s) λ whole.
      stays-bind s (stays-local s (local-bytes n)) λ t.
      stays-bind s (stays-local s (local-check (utf8 t) (bad_text (whole - valid_up_to t)))) λ u. stays-local s (local-give (keep t (whole - n)))

  pub stays-name : Stays s (name keep)
  unfolding name
  stays-name = stays-bind s (stays-local s (local-number 1)) stays-text

  pub stays-path : Stays s (path keep)
  unfolding path
  stays-path = stays-bind s (stays-local s (local-number 2)) stays-text

  pub stays-variable : Stays s (variable keep)
  unfolding variable
  stays-variable =
      stays-bind s (stays-local s (local-number 2)) λ i.
      stays-bind s (stays-local s (local-number 2)) λ f.
      stays-bind s (stays-local s (local-number 1)) λ c.
      stays-bind s (stays-local s (local-number 1)) λ t.
      stays-bind s (stays-name) λ n.
      stays-bind s (stays-name) λ y. stays-local s (local-give _)

  pub stays-function : Stays s (function_name keep)
  unfolding function_name
  stays-function = stays-bind s (stays-local s (local-number 2)) λ i. stays-bind s (stays-name) λ n. stays-local s (local-give _)

  pub stays-file : Stays s (source_file keep)
  unfolding source_file
  stays-file = stays-bind s (stays-path) λ l. stays-bind s (stays-local s (local-bytes 32)) λ h. stays-local s (local-give _)

  pub stays-enumeration : Stays s (enumeration keep)
  unfolding enumeration
  stays-enumeration = stays-bind s (stays-name) λ n. stays-bind s (stays-counted s (stays-name)) λ vs. stays-local s (local-give _)

pub stays-constant : {T : Type 0} (whole : List ℕ) (keep : Keep T) → Stays whole (constant keep)
unfolding constant
stays-constant whole keep =
    stays-bind whole (stays-local whole (local-number 1)) λ kind.
    stays-bind whole (stays-local whole (local-number 1)) λ tag.
    stays-bind whole (stays-local whole (local-number 2)) λ size.
    stays-bind whole (stays-local whole (local-check (leb kind 7) (invalid_constant_type kind))) λ u.
    stays-bind whole (stays-local whole (local-check (size_fits kind size) (invalid_constant_type kind))) λ v.
    stays-bind whole (stays-local whole (local-bytes size)) λ body.
    stays-bind whole (stays-left whole) λ behind. stays-local whole (local-give (record { kind = kind; kept = kept_of keep kind body behind }))
