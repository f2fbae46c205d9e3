-- The claims of `specs/Laws.antt`.
use mathlib.Core.Path.{◌≡◌, sym, ap, ◌∙◌}
use mathlib.Core.List.{List, [], ◌∷◌, ◌++◌}
use Prim.Native.Nat.{ℕ, ◌*◌, ◌≤◌}
use native.Mathlib.Omega.{arith}
use lib.ListN.{take, length-take}
use lib.Seq.{take_at, take-take, take_all}
use Rattle.compression.specs.Sizes.{chunk_len}
use Rattle.hasher.specs.Hash.{hash_words}
use Rattle.hasher.specs.Stack.{levels, values_of, waiting}
use Rattle.hasher.specs.State.{start, capacity, fed, finished}
use Rattle.hasher.specs.Laws.{joined_parts, fed_parts, Laws}
use Rattle.hasher.specs.declared.Hasher.{Hasher}
use Rattle.hasher.proofs.Room.{fed-none, fed-fill, fed-two, fed-full}
use Rattle.hasher.proofs.Tree.{tree-large}
use Rattle.hasher.proofs.Reached.{Reached, reached-start, reached-fed, reached-finished}

fed-parts : (h : Hasher) (ps : List (List ℕ)) → fed_parts h ps ≡ fed h (joined_parts ps)
fed-parts h [] = sym (fed-none h)
fed-parts h (p ∷ ps) = fed-parts (fed h p) ps ∙ fed-two h p (joined_parts ps)

-- the state has taken in the first bytes, up to the capacity
reached : (bs : List ℕ) → Reached (fed start bs) (take capacity bs)
unfolding fed
reached bs = reached-fed start [] (take capacity bs) reached-start (omega (arith, length-take capacity bs))

-- the values that wait are those of the finished chunks
waits : (h : Hasher) (bs : List ℕ) → Reached h (take capacity bs) → values_of h.cv_stack ≡ waiting levels 0 (take (chunk_len * h.chunk_counter) bs)
waits h bs r =
    let f = r.holds in
    let k : chunk_len * h.chunk_counter ≤ capacity = omega (arith, f.few) in
    f.stack.values
    ∙ ap (waiting levels 0) (sym (sym (take-take (chunk_len * h.chunk_counter) capacity bs k) ∙ ap (take (chunk_len * h.chunk_counter)) f.bytes ∙ take_at f.fs (f.ds ++ f.ps) (chunk_len * h.chunk_counter) f.whole))

pub laws : Laws
laws = record {
  parts = fed-parts;
  fills = fed-fill;
  full = fed-full;
  digest = λ ps h. ap finished (fed-parts start ps) ∙ reached-finished _ _ (reached (joined_parts ps)) ∙ ap hash_words (take_all capacity (joined_parts ps) h);
  waits = λ bs. waits (fed start bs) bs (reached bs);
  few-wait = λ bs. (reached bs).holds.stack.bound;
  few-chunks = λ bs. (reached bs).holds.few;
  split = λ d t bs h l. (tree-large d t bs h, omega arith, omega arith);
}
