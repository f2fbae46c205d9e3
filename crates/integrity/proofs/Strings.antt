-- The masked header and the four sections make the hashed string, and its digest is the content hash. It is never refused: what is hashed of a file
-- within the limit is within the hash's limit.
use mathlib.Core.Path.{◌≡◌, refl, sym, ap, ◌∙◌}
use mathlib.Core.Bool.{Bool, true, false, ◌&&◌, ◌||◌, cond}
use mathlib.Core.List.{List, [], ◌++◌}
use Prim.Native.Nat.{ℕ, ◌+◌, ◌≤◌, ◌<◌}
use native.Mathlib.Omega.{arith}
use lib.Dec.{leb, eqb}
use lib.ListN.{length, take}
use borrow.Author.Tests.{le-leb, lt-leb, eqb-true}
use Rattle.reading.specs.Fault.{short_input}
use Rattle.reading.specs.Answer.{refused, found, ◌>>=◌, ◌>>◌, need}
use Rattle.format.specs.Faults.{too_long, section_size_mismatch}
use Rattle.format.specs.Parts.{limit, header_size, Place, cut, is_inside}
use Rattle.format.specs.Header.{Directory}
use Rattle.format.specs.Integrity.{masked_header, section_in, hashed_in, hashed_string}
use Rattle.format.proofs.Places.{inside_is}
use Rattle.format.proofs.Layouts.{hash-limit}
use Rattle.reading.proofs.Parts.{part-of-part}
use Rattle.base.specs.Section.{bytes_of}
use Rattle.blake3.proofs.Whole.{within}
use Rattle.integrity.specs.Hashes.{is_hashable, all_hashable, content_hash_of, computed_content_hash}

-- what is hashed of a section
hashed-is : (f : List ℕ) (p : Place) → hashed_in f p ≡ (need (is_hashable f p) section_size_mismatch >> found (bytes_of f p))
unfolding hashed_in section_in is_hashable bytes_of
hashed-is f p = at (eqb p.size 0) (is_inside f p) (leb (p.offset + p.size) (length f)) refl refl refl
  where
    at : (e i w : Bool) → eqb p.size 0 ≡ e → is_inside f p ≡ i → leb (p.offset + p.size) (length f) ≡ w
        → cond e (found []) (need i section_size_mismatch >> found (cut f p)) ≡ (need (e || i) section_size_mismatch >> found (cond w (cut f p) []))
    at true i true e k l = rw (eqb-true p.size 0 e)
    at true i false e k l = refl
    at false false w e k l = refl
    at false true true e k l = refl
    at false true false e k l =
        let b : ◌≡◌ {A = Bool} true false = sym (le-leb _ _ (inside_is f p k).within) ∙ l in
        absurd (let z : ◌≡◌ {A = ℕ} 0 1 = ap (λ (y : Bool). cond y 0 1) b in omega arith)

-- four parts after a first
four : (m s t u v : List ℕ) (a b c d : Bool)
    → ((need a section_size_mismatch >> found s) >>= λ s. (need b section_size_mismatch >> found t) >>= λ t. (need c section_size_mismatch >> found u) >>= λ u. (need d section_size_mismatch >> found v) >>= λ v. found (m ++ s ++ t ++ u ++ v))
    ≡ (need (a && b && c && d) section_size_mismatch >> found (m ++ s ++ t ++ u ++ v))
four m s t u v false b c d = refl
four m s t u v true false c d = refl
four m s t u v true true false d = refl
four m s t u v true true true false = refl
four m s t u v true true true true = refl

-- the mask depends only on a file's header
masked-first : (f : List ℕ) → masked_header (take header_size f) ≡ masked_header f
unfolding masked_header
masked-first f = rw (part-of-part f 0 header_size 0 7 (omega arith), part-of-part f 0 header_size 7 1 (omega arith), part-of-part f 0 header_size 40 32 (omega arith), part-of-part f 0 header_size 104 32 (omega arith), part-of-part f 0 header_size 192 64 (omega arith))

module _ (f : List ℕ) (d : Directory) where
  abbrev string : List ℕ
  string = masked_header f ++ bytes_of f d.tasks ++ bytes_of f d.types ++ bytes_of f d.constants ++ bytes_of f d.code

  string-is : hashed_string f d ≡ (need (all_hashable f d) section_size_mismatch >> found string)
  unfolding hashed_string
  string-is = rw (hashed-is f d.tasks, hashed-is f d.types, hashed-is f d.constants, hashed-is f d.code) (four (masked_header f) (bytes_of f d.tasks) (bytes_of f d.types) (bytes_of f d.constants) (bytes_of f d.code) (is_hashable f d.tasks) (is_hashable f d.types) (is_hashable f d.constants) (is_hashable f d.code))

  pub hash_long : limit < length f → refused too_long ≡ computed_content_hash f d
  unfolding computed_content_hash
  hash_long h = rw (lt-leb _ _ h)

  pub hash_short : length f ≤ limit → length f < header_size → refused short_input ≡ computed_content_hash f d
  unfolding computed_content_hash
  hash_short l h = rw (le-leb _ _ l, lt-leb _ _ h)

  module _ (l : length f ≤ limit) (w : header_size ≤ length f) where
    pub hash_outside : all_hashable f d ≡ false → refused section_size_mismatch ≡ computed_content_hash f d
    unfolding computed_content_hash
    hash_outside e = rw (le-leb _ _ l, le-leb _ _ w, string-is, e)

    pub hash_found : all_hashable f d ≡ true → content_hash_of (take header_size f) (bytes_of f d.tasks) (bytes_of f d.types) (bytes_of f d.constants) (bytes_of f d.code) ≡ computed_content_hash f d
    unfolding computed_content_hash
    hash_found e =
        let k : hashed_string f d ≡ found string = string-is ∙ ap (λ (y : Bool). need y section_size_mismatch >> found string) e in
        rw (masked-first f, le-leb _ _ l, le-leb _ _ w, k) (sym (within string (hash-limit.holds f d string l k)))
