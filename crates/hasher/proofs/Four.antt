-- Whole chunks taken in one after the other.
use mathlib.Core.Path.{◌≡◌, refl, ap, ap₂, sym, ◌∙◌}
use mathlib.Core.List.{List}
use mathlib.Core.Logic.{⊎_elim}
use Prim.Native.Nat.{ℕ, zero, suc, ◌+◌, ◌*◌, ◌-◌, ◌≤◌, ◌<◌, ◌^◌}
use native.Mathlib.Omega.{arith}
use native.Mathlib.Numerals.{add-one}
use lib.ListN.{length, drop, length-drop}
use lib.Seq.{drop-drop}
use borrow.Author.Tests.{lt-ltb, le-ltb}
use Rattle.compression.specs.Sizes.{block_len, chunk_len}
use Rattle.wide.specs.Lanes.{count_bits, counter_after, chunk_value, from}
use Rattle.hasher.specs.State.{chunk_done, fed_freely}
use Rattle.hasher.specs.Whole.{chunks_done, at_once}
use Rattle.hasher.specs.declared.Hasher.{Hasher}
use Rattle.hasher.proofs.Stacking.{lt-or-le}
use Rattle.hasher.proofs.Feeding.{Empty, fed-chunk}

-- feeding them, if more input follows
pub fed-chunks : (n : ℕ) (h : Hasher) (s : List ℕ) → h.block_len ≡ 0 → length h.block ≡ block_len → h.blocks_compressed ≡ 0 → chunk_len * n < length s
    → fed_freely h s ≡ fed_freely (chunks_done n h s) (drop (chunk_len * n) s)
unfolding chunk_done chunks_done
fed-chunks zero h s z l b p = refl
fed-chunks (suc n) h s z l b p =
    let d : chunk_len + chunk_len * n ≡ chunk_len * suc n = omega arith in
    fed-chunk h s z l b (omega arith)
    ∙ fed-chunks n (chunk_done h (chunk_value h.chaining_value h.chunk_counter s)) (drop chunk_len s) refl refl refl (omega (arith, length-drop chunk_len s))
    ∙ ap (fed_freely (chunks_done (suc n) h s)) (drop-drop (chunk_len * n) chunk_len s ∙ ap (λ (k : ℕ). drop k s) d)

-- as many as are taken in at once
pub at-once-fits : (left : ℕ) → chunk_len < left → (chunk_len * at_once left < left) × (0 < at_once left)
at-once-fits left p = ⊎_elim
    (λ (q : 4 * chunk_len < left). rw (lt-ltb (4 * chunk_len) left q) (omega arith, omega arith))
    (λ (q : left ≤ 4 * chunk_len). rw (le-ltb (4 * chunk_len) left q) (omega arith, omega arith))
    (lt-or-le (4 * chunk_len) left)

pub chunks-empty : (n : ℕ) (h : Hasher) (s : List ℕ) → Empty h → Empty (chunks_done n h s)
unfolding chunk_done chunks_done
chunks-empty zero h s z = z
chunks-empty (suc n) h s z = chunks-empty n (chunk_done h (chunk_value h.chaining_value h.chunk_counter s)) (drop chunk_len s) (refl, refl)

-- h is what h₀ becomes with i of four chunks: the other chunks then make of it what all four make of h₀
pub record Passed (h₀ h : Hasher) (s : List ℕ) (i : ℕ) : Type 0 where
  pub within : i ≤ 4
  pub cv : h.chaining_value ≡ from h₀.chaining_value i
  pub chunks : h.chunk_counter ≡ counter_after h₀.chunk_counter i
  pub same : chunks_done (4 - i) h (drop (chunk_len * i) s) ≡ chunks_done 4 h₀ s

pub passed_none : (h : Hasher) (s : List ℕ) → h.chunk_counter < 2 ^ count_bits → Passed h h s 0
passed_none h s n = record { within = omega arith; cv = refl; chunks = omega arith; same = refl }

-- one more
pub passed-more : (h₀ h : Hasher) (s : List ℕ) (i : ℕ) {v : List ℕ} {r : Hasher} → Passed h₀ h s i → i < 4
    → v ≡ chunk_value (from h₀.chaining_value i) (counter_after h₀.chunk_counter i) (drop (chunk_len * i) s) → r ≡ chunk_done h v → Passed h₀ r s (i + 1)
unfolding chunk_done chunks_done
passed-more h₀ h s i {v = v} p q ev er =
    let k : 4 - i ≡ suc (4 - (i + 1)) = omega arith in
    let d : chunk_len * i + chunk_len ≡ chunk_len * (i + 1) = omega arith in
    let e : chunk_value h.chaining_value h.chunk_counter (drop (chunk_len * i) s) ≡ v = cc (ev, p.cv, p.chunks) in
    let next : chunks_done (4 - (i + 1)) (chunk_done h v) (drop (chunk_len * (i + 1)) s) ≡ chunks_done (4 - i) h (drop (chunk_len * i) s) =
    ap₂ (λ (w : List ℕ) (x : List ℕ). chunks_done (4 - (i + 1)) (chunk_done h w) x) (sym e) (sym (drop-drop chunk_len (chunk_len * i) s ∙ ap (λ (j : ℕ). drop j s) d))
    ∙ ap (λ (j : ℕ). chunks_done j h (drop (chunk_len * i) s)) (sym k) in
    rw er (record { within = omega arith; cv = rw add-one refl; chunks = rw p.chunks (omega arith); same = next ∙ p.same })
