-- The place of a bad text that the state of a debug section tells.
use Prim.Native.Nat.{ℕ, ◌≤◌}
use mathlib.Core.Path.{◌≡◌, refl, sym, ap, ◌∙◌}
use mathlib.Core.Bool.{Bool, true, false, cond}
use mathlib.Core.List.{List}
use native.Mathlib.Omega.{arith}
use lib.Dec.{leb}
use lib.ListN.{length}
use borrow.Author.Tests.{leb-true}
use Rattle.reading.specs.Fault.{Fault}
use Rattle.format.specs.Parts.{limit, cut}
use Rattle.format.specs.Header.{Header}
use Rattle.format.specs.Debug.{Tables}
use Rattle.format.specs.Load.{DebugState, empty, outside, hash_differs, unreadable, read, debug_sized, debug_state}
use Rattle.format.specs.Record.{DebugCounts, state_counts}
use Rattle.blake3.specs.Blake3.{blake3}
use Rattle.requests.proofs.BadPlace.{unreadable-at}
use Rattle.debug_text.specs.Answers.{debug_fault_of}
use Rattle.debug_tables.proofs.BadPlaces.{told-place}
use Rattle.container.specs.Sections.{debug_state_of}
use Rattle.container.specs.PlaceTold.{PlaceTold}

module _ (f : List ℕ) (h : Header) where
  -- the fault of a section that is unreadable
  state-of : (e : Fault) → unreadable e ≡ debug_state_of f h → (length f ≤ limit) × (debug_state blake3 f h ≡ unreadable e)
  unfolding debug_state_of
  state-of e k = by (leb (length f) limit) refl k
    where
      counted : (x : DebugState (Tables (List ℕ))) → unreadable e ≡ state_counts x → x ≡ unreadable e
      counted (unreadable d) k = let z : d ≡ e = cc in ap unreadable z
      counted empty k = absurd (let z : ◌≡◌ {A = ℕ} 0 1 = cc in omega arith)
      counted outside k = absurd (let z : ◌≡◌ {A = ℕ} 0 1 = cc in omega arith)
      counted hash_differs k = absurd (let z : ◌≡◌ {A = ℕ} 0 1 = cc in omega arith)
      counted (read t) k = absurd (let z : ◌≡◌ {A = ℕ} 0 1 = cc in omega arith)

      never : (z : Bool) → ◌≡◌ {A = DebugState DebugCounts} (unreadable e) (cond z outside empty) → ⊥
      never true k = let z : ◌≡◌ {A = ℕ} 0 1 = cc in omega arith
      never false k = let z : ◌≡◌ {A = ℕ} 0 1 = cc in omega arith

      by : (z : Bool) → leb (length f) limit ≡ z → ◌≡◌ {A = DebugState DebugCounts} (unreadable e) (cond z (state_counts (debug_state blake3 f h)) (cond (debug_sized h) outside empty))
          → (length f ≤ limit) × (debug_state blake3 f h ≡ unreadable e)
      by true i k = (leb-true (length f) limit i, counted (debug_state blake3 f h) k)
      by false i k = absurd (never (debug_sized h) k)

  pub place-told : PlaceTold f h
  place-told =
      record {
        told = λ e k.
            let s = cut f h.directory.debug in
            let d = state-of (debug_fault_of s e) k in
            let u = unreadable-at blake3 f h (debug_fault_of s e) d.0 d.1 in
            told-place s e u.place ∙ sym u.inside;
      }
