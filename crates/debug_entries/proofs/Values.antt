-- The name of a value of an enumeration that is looked up.
use mathlib.Core.Path.{◌≡◌, sym, ap, ◌∙◌}
use mathlib.Core.List.{List}
use Prim.Native.Nat.{ℕ}
use Rattle.reading.specs.Fault.{Fault}
use Rattle.reading.specs.Answer.{Got, refused, found, ◌>>=◌, indexed}
use Rattle.format.specs.Faults.{no_entry}
use Rattle.format.specs.Parts.{Place}
use Rattle.format.specs.Debug.{name, Enumeration, enumeration}
use Rattle.format.proofs.Answers.{same-found, steps, refused-then}
use Rattle.debug_text.specs.Answers.{keep_in}
use Rattle.base.specs.Picked.{picked}
use Rattle.debug_entries.specs.Answers.{EnumerationWithValues, entry_of, enumeration_entry}
use Rattle.debug_entries.specs.Lookups.{picked_value}
use Rattle.debug_entries.proofs.Giving.{laws}
use Rattle.base.proofs.Picked.{picked_is, picked_made}

module _ (base : ℕ) (s : List ℕ) (at n k j : ℕ) where
  abbrev picks : Got (Enumeration Place)
  picks = picked (enumeration (keep_in base s)) s at n k

  made_of : picked (enumeration_entry base (keep_in base s)) s at n k ≡ (picks >>= λ e. found (entry_of base e))
  made_of = picked_made (entry_of base) (enumeration (keep_in base s)) s at n k

  pub value_refused : (f : Fault) → refused f ≡ picked (enumeration_entry base (keep_in base s)) s at n k → refused f ≡ picked_value (keep_in base s) s at n k j
  value_refused f h = refused-then picks (entry_of base) (λ e. indexed no_entry e.values j) f (h ∙ made_of)

  pub value-found : (x : EnumerationWithValues) → found x ≡ picked (enumeration_entry base (keep_in base s)) s at n k
      → picked (name (keep_in base s)) s x.values.at x.values.count j ≡ picked_value (keep_in base s) s at n k j
  value-found x h =
      let g = steps picks (sym (h ∙ made_of)) in
      let e = g.item in
      let v = ((laws.enumerations base s).found-is at n k e g.first).2 in
      ap (λ (y : EnumerationWithValues). picked (name (keep_in base s)) s y.values.at y.values.count j) (sym (same-found g.second))
      ∙ picked_is (name (keep_in base s)) s (entry_of base e).values.at (entry_of base e).values.count j e.values v.rest v.reads
      ∙ sym (ap (λ (y : Got (Enumeration Place)). y >>= λ d. indexed no_entry d.values j) g.first)
