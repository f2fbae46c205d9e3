-- The states of a file's debug section.
use Prim.Native.Nat.{ℕ, ◌<◌}
use mathlib.Core.Path.{◌≡◌, refl, ◌∙◌, ap}
use mathlib.Core.Bool.{Bool, true, false, not, ◌&&◌, cond}
use mathlib.Core.List.{List}
use mathlib.Core.Option.{none}
use native.Mathlib.Omega.{arith}
use borrow.Author.Tests.{lt-ltb, le-ltb}
use Rattle.reading.specs.Fault.{Fault}
use Rattle.reading.specs.Reader.{Read, fault, got}
use Rattle.format.specs.Parts.{cut, is_inside, by_bytes}
use Rattle.format.specs.Header.{Header}
use Rattle.format.specs.Integrity.{debug_hash_fits}
use Rattle.format.specs.Debug.{Tables, debug_tables}
use Rattle.format.specs.Load.{empty, outside, hash_differs, unreadable, read, state_of_read, debug_sized, debug_inside, debug_hash_right, readable, debug_of, debug_found, debug_state, debug_kept}
use Rattle.format.specs.DebugStates.{DebugStates, CountedStates}

module _ (hash : List ℕ → List ℕ) (f : List ℕ) (h : Header) where
  size-zero : h.directory.debug.size ≡ 0 → debug_state hash f h ≡ empty
  unfolding debug_state
  size-zero z = rw (le-ltb 0 h.directory.debug.size (omega arith))

  module _ (sized : 0 < h.directory.debug.size) where
    not-inside : is_inside f h.directory.debug ≡ false → debug_state hash f h ≡ outside
    unfolding debug_state
    not-inside i = rw (lt-ltb 0 h.directory.debug.size sized, i)

    module _ (inside : is_inside f h.directory.debug ≡ true) where
      hash-unequal : debug_hash_fits hash h.debug_hash (cut f h.directory.debug) ≡ false → debug_state hash f h ≡ hash_differs
      unfolding debug_state
      hash-unequal d = rw (lt-ltb 0 h.directory.debug.size sized, inside, d)

      -- what the reader answers decides
      pub section-decides : debug_hash_fits hash h.debug_hash (cut f h.directory.debug) ≡ true → debug_state hash f h ≡ state_of_read (debug_tables by_bytes (cut f h.directory.debug))
      unfolding debug_state
      section-decides d = rw (lt-ltb 0 h.directory.debug.size sized, inside, d)

      module _ (fits : debug_hash_fits hash h.debug_hash (cut f h.directory.debug) ≡ true) where
        section-faulty : (e : Fault) → debug_tables by_bytes (cut f h.directory.debug) ≡ fault e → debug_state hash f h ≡ unreadable e
        section-faulty e x = section-decides fits ∙ ap state_of_read x

        section-reads : (t : Tables (List ℕ)) (rest : List ℕ) → debug_tables by_bytes (cut f h.directory.debug) ≡ got t rest → debug_state hash f h ≡ read t
        section-reads t rest x = section-decides fits ∙ ap state_of_read x

  kept : debug_kept (debug_state hash f h) ≡ debug_found hash f h
  unfolding debug_state debug_found debug_of
  kept = go (debug_sized h) (debug_inside f h) (debug_hash_right hash f h) (debug_tables by_bytes (cut f h.directory.debug))
    where
      go : (a b c : Bool) (x : Read (Tables (List ℕ))) → debug_kept (cond (not a) empty (cond (not b) outside (cond (not c) hash_differs (state_of_read x)))) ≡ cond (a && b && c) (readable x) none
      go true true true (fault e) = refl
      go true true true (got t rest) = refl
      go true true false x = refl
      go true false c x = refl
      go false b c x = refl

  pub debug-states : DebugStates hash f h
  debug-states = record { size-zero = size-zero; not-inside = not-inside; hash-unequal = hash-unequal; section-faulty = section-faulty; section-reads = section-reads; kept = kept }

pub counted-states : CountedStates
counted-states = record { empty-stays = refl; outside-stays = refl; hash-differs-stays = refl; unreadable-stays = λ e. refl; read-counted = λ t. refl }
