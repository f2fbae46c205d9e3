-- Steps over the file, from those over the section's bytes.
use mathlib.Core.Path.{◌≡◌, ap, ◌∙◌}
use mathlib.Core.List.{List}
use Prim.Native.Nat.{ℕ}
use Rattle.std.specs.Prelude.{Option, Some, None, Result, Ok, Err, MatchResult, IsErrAnd}
use Rattle.std.proofs.lemmas.Result.{err_from_is_err_and}
use Rattle.reading.specs.Fault.{Fault}
use Rattle.reading.specs.Reader.{Reader}
use Rattle.reading.specs.Answer.{Got, refused, found}
use Rattle.reading.specs.Places.{Next, faulty, step_of}
use Rattle.reading.specs.declared.Table.{Table}
use Rattle.format.specs.Parts.{Place}
use Rattle.base.specs.Answers.{next_by, next_from}
use Rattle.base.specs.declared.error.ContainerError.{ContainerError}
use Rattle.base.specs.declared.error.ContainerError.TheVariants as container
use Rattle.debug_section.specs.Lookups.{debug_cut}
use Rattle.debug_section.proofs.Parts.{cut-refused, cut-found}
use Rattle.debug_walks.specs.Steps.{no_debug_step, debug_step_by, debug_step_at}

module _ (f : List ℕ) (p : Place) {A : Type 0} where
  pub step_err : (r : Reader A) (t : Table) (e : Fault) → refused e ≡ debug_cut f p → faulty e ≡ debug_step_at f p r t
  step_err r t e h = ap (λ (x : Got Place). debug_step_by f x r t) (cut-refused f p h)

  pub step_ok : (r : Place → Reader A) (t : Table) (c : Place × List ℕ) (x : Next A) → found c ≡ debug_cut f p → x ≡ step_of (r c.0) c.1 t → no_debug_step x ≡ debug_step_at f p (r p) t
  step_ok r t c x h k =
      let g = cut-found f p h in
      ap no_debug_step (k ∙ ap (λ (y : Place × List ℕ). step_of (r y.0) y.1 t) g.0) ∙ ap (λ (y : Got Place). debug_step_by f y (r p) t) g.1

-- each fault made into 15
pub no_debug_is : {E T A : Type 0} (told : E → Fault) (view : T → A) (x : Result (Option (T × Table)) E) (y : Result (Option (T × Table)) ContainerError) (P : E → ContainerError → Type 0)
    → ((e : E) (d : ContainerError) → P e d → d ≡ container.NoDebug) → MatchResult x (λ v. y ≡ Ok v) (λ e. IsErrAnd y (P e)) → next_from view y ≡ no_debug_step (next_by told view x)
no_debug_is told view (Ok None) y P n h = rw h
no_debug_is told view (Ok (Some v)) y P n h = rw h
no_debug_is told view (Err e) y P n h = let d = err_from_is_err_and y h in rw (d.1, n e d.0 d.2)
