-- The claims of `specs/Laws.antt`.
use mathlib.Core.Path.{◌≡◌, refl, ap}
use mathlib.Core.Bool.{cond}
use mathlib.Core.List.{List}
use Prim.Native.Nat.{ℕ, ◌≤◌}
use lib.ListN.{length}
use borrow.Author.Tests.{le-leb}
use Rattle.reading.specs.Answer.{found, need}
use Rattle.format.specs.Faults.{content_hash_mismatch}
use Rattle.format.specs.Parts.{limit, header_size, hash_limit, same}
use Rattle.format.specs.Header.{Header}
use Rattle.format.specs.Integrity.{hashed_string, no_hash, content_fits, debug_hash_fits}
use Rattle.format.proofs.Answers.{renamed}
use Rattle.blake3.specs.Blake3.{blake3, hash_asked}
use Rattle.integrity.specs.Hashes.{computed_content_hash, content_checked, debug_fits}
use Rattle.integrity.specs.Laws.{Laws}

content : (f : List ℕ) (h : Header) → header_size ≤ length f → length f ≤ limit → content_checked f h ≡ content_fits blake3 f h
unfolding content_checked computed_content_hash content_fits
content f h w l = rw (le-leb _ _ l, le-leb _ _ w) (ap (cond (no_hash h.content_hash) (found tt)) (renamed blake3 (λ d. need (same d h.content_hash) content_hash_mismatch) _ (λ s. refl) (hashed_string f h.directory)))

debug : (d s : List ℕ) → length s ≤ hash_limit → debug_fits d s ≡ debug_hash_fits blake3 d s
unfolding debug_fits debug_hash_fits hash_asked
debug d s l = rw (le-leb _ _ l)

pub laws : Laws
laws = record { content = content; debug = debug }
