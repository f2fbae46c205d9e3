-- The place of a bad text that an entry has: names and paths kept by their bytes stop the reader in the same way.
use mathlib.Core.Path.{◌≡◌, refl, sym, ap}
use mathlib.Core.List.{List}
use Prim.Native.Nat.{ℕ, ◌-◌}
use native.Mathlib.Omega.{arith}
use lib.ListN.{length, drop}
use Rattle.reading.specs.Fault.{Fault, bad_text}
use Rattle.reading.specs.Reader.{Read, fault, got, Reader, next, give}
use Rattle.reading.specs.Places.{step_given, step_at}
use Rattle.reading.specs.Places as step
use Rattle.reading.proofs.Reading.{never}
use Rattle.reading.proofs.Left.{left_at}
use Rattle.format.specs.Parts.{Keep, by_bytes}
use Rattle.format.specs.Debug.{on_variable, variable, on_function_name, function_name, on_source_file, source_file, enumeration}
use Rattle.format.proofs.Keeping.{Alike, stops, gives, Same, on_enumeration, same-variable, same-function_name, same-source_file, same-enumeration}
use Rattle.requests.specs.BadPlace.{BadText}
use Rattle.requests.proofs.BadPlace as bad
use Rattle.debug_text.specs.Answers.{keep_in}
use Rattle.debug_text.proofs.Places.{left-place}
use Rattle.debug_entries.specs.Answers.{entry_of, enumeration_entry}
use Rattle.debug_entries.specs.Laws.{Placed}

-- two readers that are alike stop with the same fault

pub alike-stops : {A B : Type 0} (s : List ℕ) (m : B → A) {x : Read A} {y : Read B} (f : Fault) → Alike s m x y → y ≡ fault f → x ≡ fault f
alike-stops s m f (stops d) e = cc
alike-stops s m f (gives b t w) e = never (sym e)

alike-stopped : {A B : Type 0} (s : List ℕ) (m : B → A) {x : Read A} {y : Read B} (f : Fault) → Alike s m x y → x ≡ fault f → y ≡ fault f
alike-stopped s m f (stops d) e = cc
alike-stopped s m f (gives b t w) e = never (sym e)

-- names and paths aside
abbrev aside : Keep (Unit {0})
aside bytes behind = tt

abbrev pub none_kept : {T : Type 0} → T → Unit {0}
none_kept a = tt

module _ (s : List ℕ) where
  -- `q` and `t` are alike to the same reader
  both-stop : {A B C : Type 0} (m : B → A) (n : C → A) (r : Reader A) (q : Reader B) (t : Reader C) → Same s m r q → Same s n r t → (at : ℕ) (f : Fault)
      → q (drop at s) ≡ fault f → t (drop at s) ≡ fault f
  both-stop m n r q t h g at f e = alike-stopped s n f (g (drop at s) (left_at s at)) (alike-stops s m f (h (drop at s) (left_at s at)) e)

  -- what a reader that stops at a place has read there
  stopped : {A : Type 0} (r : Reader A) (at : ℕ) (f : Fault) → step.stops f ≡ step_at r s at → r (drop at s) ≡ fault f
  unfolding step_at
  stopped {A} r at f e = by (r (drop at s)) e
    where
      by : (x : Read A) → step.stops f ≡ step_given s x → x ≡ fault f
      by (fault d) e = let z : d ≡ f = cc in ap fault z
      by (got a rest) e = absurd (let z : ◌≡◌ {A = ℕ} 0 1 = cc in omega arith)

  told : (p : ℕ) → BadText s (length s - (length s - p)) → BadText s p
  told p b = rw (left-place s p b) at b

  placed_by : {A B C : Type 0} (m : B → A) (n : C → A) (r : Reader A) (q : Reader B) (t : Reader C) → Same s m r q → Same s n r t → bad.Placed s t → Placed q s
  placed_by m n r q t h g k at p i e = told p (k at (length s - p) i (both-stop m n r q t h g at (bad_text (length s - p)) (stopped q at (bad_text (length s - p)) e)))

  module _ (base : ℕ) where
    pub variable-placed : Placed (variable (keep_in base s)) s
    variable-placed =
        placed_by (on_variable none_kept) (on_variable none_kept) (variable aside) (variable (keep_in base s)) (variable by_bytes) (same-variable s aside (keep_in base s) none_kept (λ k m i. refl))
        (same-variable s aside by_bytes none_kept (λ k m i. refl)) (bad.placed-variable s)

    pub function-name-placed : Placed (function_name (keep_in base s)) s
    function-name-placed =
        placed_by (on_function_name none_kept) (on_function_name none_kept) (function_name aside) (function_name (keep_in base s)) (function_name by_bytes)
        (same-function_name s aside (keep_in base s) none_kept (λ k m i. refl)) (same-function_name s aside by_bytes none_kept (λ k m i. refl)) (bad.placed-function_name s)

    pub source-file-placed : Placed (source_file (keep_in base s)) s
    source-file-placed =
        placed_by (on_source_file none_kept) (on_source_file none_kept) (source_file aside) (source_file (keep_in base s)) (source_file by_bytes)
        (same-source_file s aside (keep_in base s) none_kept (λ k m i. refl)) (same-source_file s aside by_bytes none_kept (λ k m i. refl)) (bad.placed-source_file s)

    -- an enumeration's answer is made of what its reader gives
    made-stopped : {A B : Type 0} (x : Read A) (go : A → B) (f : Fault) → next x (λ a. give (go a)) ≡ fault f → x ≡ fault f
    made-stopped (fault d) go f e = let z : d ≡ f = cc in ap fault z
    made-stopped (got a rest) go f e = never (sym e)

    pub enumeration-placed : Placed (enumeration_entry base (keep_in base s)) s
    enumeration-placed at p i e =
        let f = bad_text (length s - p) in
        let x = made-stopped (enumeration (keep_in base s) (drop at s)) (entry_of base) f (stopped (enumeration_entry base (keep_in base s)) at f e) in
        let y =
        both-stop (on_enumeration none_kept) (on_enumeration none_kept) (enumeration aside) (enumeration (keep_in base s)) (enumeration by_bytes)
        (same-enumeration s aside (keep_in base s) none_kept (λ k m i. refl)) (same-enumeration s aside by_bytes none_kept (λ k m i. refl)) at f x in
        told p (bad.placed-enumeration s at (length s - p) i y)
