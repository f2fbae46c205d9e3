-- Demand 3, first half.
use Prim.Native.Nat.{ℕ, ◌+◌, ◌*◌, ◌/◌, ◌%◌, ◌-◌, ◌<◌, ◌≤◌}
use mathlib.Core.Path.{◌≡◌, refl, sym, ap, ◌∙◌}
use mathlib.Core.Bool.{Bool, true, false, ◌&&◌}
use mathlib.Core.List.{List, []}
use mathlib.Core.Option.{none}
use native.Mathlib.Omega.{arith}
use lib.Dec.{ltb, eqb, lit≤}
use lib.ListN.{length, drop, take, get_or}
use lib.Seq.{get_or-take, get_or-drop, ext_get_or}
use borrow.Author.Tests.{le-leb}
use Rattle.reading.specs.Numbers.{le, le_at}
use Rattle.reading.specs.Reader.{Reader}
use Rattle.reading.specs.Answer.{Got, refused, found, ◌>>=◌, need}
use Rattle.reading.proofs.Parts.{part-of-part, length_part}
use Rattle.format.specs.Faults.{invalid_magic, unsupported_version}
use Rattle.format.specs.Parts.{limit, part, Place, is_inside, by_bytes}
use Rattle.format.specs.Header.{Header, runtime_of, directory_of, fields_of, header_of, types_flag, without_debug_bit}
use Rattle.format.specs.Integrity.{masked_header, section_in, hashed_in, hashed_string, content_fits}
use Rattle.format.specs.Tasks.{task_table}
use Rattle.format.specs.Constants.{constants}
use Rattle.format.specs.Code.{code_of}
use Rattle.format.specs.Load.{Loaded, load, read_in, has_types, types_found}
use Rattle.format.specs.Record.{record_of}
use Rattle.format.specs.RunSide.{HeadersAgree, SameSection, SameTypes, placed, empty, SameRunSide, run_header, run_of, run_record_of, RunSideIndependence, RunSideOfRecords}
use Rattle.format.specs.RunSide.{identification, content-and-reserved, layout, BytesAgree, Premises}
use Rattle.format.specs.RunSide as spec
use Rattle.format.proofs.Answers.{assoc}
use Rattle.format.proofs.Places.{is-inside, section-is}
use Rattle.format.proofs.OwnRecord.{own-record}

-- The headers

-- a part of a part that two files share
part-in : (f g : List ℕ) (at n k w : ℕ) → part at n f ≡ part at n g → k + w ≤ n → part (at + k) w f ≡ part (at + k) w g
part-in f g at n k w e h = sym (part-of-part f at n k w h) ∙ ap (λ (s : List ℕ). take w (drop k s)) e ∙ part-of-part g at n k w h

-- the types flag is outside the debug bit
flag_is : (n : ℕ) → types_flag (without_debug_bit n) ≡ types_flag n
flag_is n =
    let h : (n - 2 * (n / 2 % 2)) / 4 ≡ n / 2 / 2 = omega arith in
    let k : n / 4 ≡ n / 2 / 2 = omega arith in
    rw (h, k)

module _ (f g : List ℕ) (h : HeadersAgree f g) where
  -- parts of each region, at `k` in it
  first : (k w : ℕ) → k + w ≤ 7 → part (0 + k) w f ≡ part (0 + k) w g
  first k w i = part-in f g 0 7 k w h.before-flags i

  hashes : (k w : ℕ) → k + w ≤ 64 → part (8 + k) w f ≡ part (8 + k) w g
  hashes k w i = part-in f g 8 64 k w h.from-8-to-71 i

  runtime : (k w : ℕ) → k + w ≤ 64 → part (192 + k) w f ≡ part (192 + k) w g
  runtime k w i = part-in f g 192 64 k w h.from-192-to-255 i

  runtime-same : runtime_of f ≡ runtime_of g
  unfolding runtime_of
  runtime-same =
      rw (
        runtime 0 2 (lit≤ tt),
        runtime 2 2 (lit≤ tt),
        runtime 4 2 (lit≤ tt),
        runtime 6 4 (lit≤ tt),
        runtime 10 2 (lit≤ tt),
        runtime 12 4 (lit≤ tt),
        runtime 16 2 (lit≤ tt),
        runtime 18 2 (lit≤ tt),
        runtime 20 2 (lit≤ tt),
        runtime 22 2 (lit≤ tt),
        runtime 24 2 (lit≤ tt),
      )

  run-header-same : run_header (fields_of f) ≡ run_header (fields_of g)
  run-header-same =
      rw (
        first 0 4 (lit≤ tt),
        first 4 2 (lit≤ tt),
        first 6 1 (lit≤ tt),
        h.flags,
        hashes 0 32 (lit≤ tt),
        hashes 32 32 (lit≤ tt),
        h.from-104-to-135,
        runtime-same,
        runtime 26 38 (lit≤ tt),
      )

  masked_same : masked_header f ≡ masked_header g
  unfolding masked_header
  masked_same = rw (h.before-flags, h.flags, hashes 32 32 (lit≤ tt), h.from-104-to-135, h.from-192-to-255)

-- Sections that two files share

none-hashed : (f : List ℕ) (p : Place) → p.size ≡ 0 → hashed_in f p ≡ found []
unfolding hashed_in
none-hashed f p e = rw e

module _ (f : List ℕ) (p : Place) (g : List ℕ) (q : Place) where
  same-section : SameSection f p g q → section_in f p ≡ section_in g q
  same-section h = section-is f p (is-inside f p h.in-first) ∙ ap found h.bytes ∙ sym (section-is g q (is-inside g q h.in-second))

  same_read : {A : Type 0} (r : Reader A) → SameSection f p g q → read_in f p r ≡ read_in g q r
  unfolding read_in
  same_read r h = rw (same-section h)

  same-hashed : SameSection f p g q → hashed_in f p ≡ hashed_in g q
  unfolding hashed_in
  same-hashed h = rw (same-section h, h.sizes)

  types-hashed : SameTypes f p g q → hashed_in f p ≡ hashed_in g q
  types-hashed (placed h) = same-hashed h
  types-hashed (empty a b) = none-hashed f p a ∙ sym (none-hashed g q b)

-- The steps of reading

not-both : (t s : Bool) → t && false && s ≡ false
not-both true s = refl
not-both false s = refl

none-there : (f : List ℕ) (h : Header) → h.directory.types.size ≡ 0 → has_types f h ≡ false
unfolding has_types
none-there f h e = let z : ltb 0 h.directory.types.size ≡ false = rw e in rw z (not-both (types_flag h.flags) (is_inside f h.directory.types))

none_found : (f : List ℕ) (h : Header) → h.directory.types.size ≡ 0 → types_found f h ≡ found none
unfolding types_found
none_found f h e = rw (none-there f h e)

module _ (f g : List ℕ) (h : SameRunSide f g) where
  string-same : hashed_string f (directory_of f) ≡ hashed_string g (directory_of g)
  unfolding hashed_string
  string-same =
      rw (
        masked_same f g h.headers,
        same-hashed f (directory_of f).tasks g (directory_of g).tasks h.tasks,
        types-hashed f (directory_of f).types g (directory_of g).types h.types,
        same-hashed f (directory_of f).constants g (directory_of g).constants h.constants,
        same-hashed f (directory_of f).code g (directory_of g).code h.code,
      )

  content-fits-same : (hash : List ℕ → List ℕ) → content_fits hash f (fields_of f) ≡ content_fits hash g (fields_of g)
  unfolding content_fits
  content-fits-same hash = rw (hashes f g h.headers 0 32 (lit≤ tt), string-same)

  flags-same : types_flag (le_at 1 f 7) ≡ types_flag (le_at 1 g 7)
  flags-same = sym (flag_is (le_at 1 f 7)) ∙ ap types_flag h.headers.flags ∙ flag_is (le_at 1 g 7)

  types-by : SameTypes f (directory_of f).types g (directory_of g).types → types_found f (fields_of f) ≡ types_found g (fields_of g)
  unfolding types_found has_types
  types-by (placed s) =
      rw (s.bytes, is-inside f (directory_of f).types s.in-first, is-inside g (directory_of g).types s.in-second, flags-same, s.sizes)
  types-by (empty a b) = none_found f (fields_of f) a ∙ sym (none_found g (fields_of g) b)

  code_same : read_in f (directory_of f).code (code_of (runtime_of f).functions) ≡ read_in g (directory_of g).code (code_of (runtime_of g).functions)
  code_same = rw (runtime-same f g h.headers) (same_read f (directory_of f).code g (directory_of g).code (code_of (runtime_of g).functions) h.code)

-- Two answers side by side: both are refused alike, or both are found, and `R` holds of what was found

abbrev Alike : {A B : Type 0} → (A → B → Type 0) → Got A → Got B → Type 0
Alike R (refused r) (refused s) = r ≡ s
Alike R (refused r) (found b) = ⊥
Alike R (found a) (refused s) = ⊥
Alike R (found a) (found b) = R a b

-- that begin with the same step
alike_then : {A B C : Type 0} (S : B → C → Type 0) (k : A → Got B) (m : A → Got C) (x y : Got A) → x ≡ y
    → ((a : A) → Alike S (k a) (m a)) → Alike S (x >>= k) (y >>= m)
alike_then {A} S k m x y e h = rw e (go y)
  where
    go : (z : Got A) → Alike S (z >>= k) (z >>= m)
    go (refused r) = refl
    go (found a) = h a

-- both headers are refused alike, or both are read
module _ (f g : List ℕ) (h : HeadersAgree f g) (long : 256 ≤ length f) (long' : 256 ≤ length g) where
  header-then : {B C : Type 0} (S : B → C → Type 0) (k : Header → Got B) (m : Header → Got C) → Alike S (k (fields_of f)) (m (fields_of g)) → Alike S (header_of f >>= k) (header_of g >>= m)
  unfolding header_of
  header-then {B} {C} S k m e =
      let magic : eqb (le_at 4 f 0) 0x49504C43 ≡ eqb (le_at 4 g 0) 0x49504C43 = ap (λ (s : List ℕ). eqb (le s) 0x49504C43) (first f g h 0 4 (lit≤ tt)) in
      let version : eqb (le_at 2 f 4) 4 ≡ eqb (le_at 2 g 4) 4 = ap (λ (s : List ℕ). eqb (le s) 4) (first f g h 4 2 (lit≤ tt)) in
      rw (le-leb 256 (length f) long, le-leb 256 (length g) long', magic, version)
      (go (eqb (le_at 4 g 0) 0x49504C43) (eqb (le_at 2 g 4) 4))
    where
      go : (s t : Bool)
          → Alike S ((need s invalid_magic >>= λ _. need t unsupported_version >>= λ _. found (fields_of f)) >>= k)
          ((need s invalid_magic >>= λ _. need t unsupported_version >>= λ _. found (fields_of g)) >>= m)
      go false t = refl
      go true false = refl
      go true true = e

-- Loading: the same refusal, or the same header and tables
record SameTables (a b : Loaded) : Type 0 where
  header : run_header a.header ≡ run_header b.header
  tasks : a.tasks ≡ b.tasks
  types : a.types ≡ b.types
  constants : a.constants ≡ b.constants
  code : a.code ≡ b.code

load-alike : (hash : List ℕ → List ℕ) (f g : List ℕ) → SameRunSide f g → Alike SameTables (load hash f) (load hash g)
unfolding load
load-alike hash f g h =
    rw (le-leb (length f) limit h.first-limit, le-leb (length g) limit h.second-limit)
    (header-then f g h.headers (omega (arith, h.tasks.in-first)) (omega (arith, h.tasks.in-second)) SameTables _ _
    (alike_then SameTables _ _ _ _ (content-fits-same f g h hash) λ _.
    alike_then SameTables _ _ _ _ (same_read f (directory_of f).tasks g (directory_of g).tasks task_table h.tasks) λ ts.
    alike_then SameTables _ _ _ _ (types-by f g h h.types) λ ys.
    alike_then SameTables _ _ _ _ (same_read f (directory_of f).constants g (directory_of g).constants (constants by_bytes) h.constants) λ cs.
    alike_then SameTables _ _ _ _ (code_same f g h) λ k.
    record { header = run-header-same f g h.headers; tasks = refl; types = refl; constants = refl; code = refl }))

-- the same tables give the same answers, each file with its own record
module _ (hash : List ℕ → List ℕ) (f g : List ℕ) (h : SameRunSide f g) where
  same-run : (a b : Loaded) → load hash f ≡ found a → load hash g ≡ found b → SameTables a b → run_of f a ≡ run_of g b
  unfolding run_of
  same-run a b d e s = rw ((own-record hash f a d).run, (own-record hash g b e).run, s.header, s.tasks, s.types, s.constants, s.code)

  same-record : (a b : Loaded) → load hash f ≡ found a → load hash g ≡ found b → SameTables a b → run_record_of f (record_of a) ≡ run_record_of g (record_of b)
  unfolding run_record_of
  same-record a b d e s = rw ((own-record hash f a d).run, (own-record hash g b e).run, s.header, s.tasks, s.types, s.constants, s.code)

  through : {A : Type 0} (m n : Loaded → A) → ((a b : Loaded) → load hash f ≡ found a → load hash g ≡ found b → SameTables a b → m a ≡ n b)
      → (load hash f >>= λ a. found (m a)) ≡ (load hash g >>= λ b. found (n b))
  through {A} m n k = go (load hash f) (load hash g) refl refl (load-alike hash f g h)
    where
      go : (x y : Got Loaded) → load hash f ≡ x → load hash g ≡ y → Alike SameTables x y → (x >>= λ a. found (m a)) ≡ (y >>= λ b. found (n b))
      go (refused r) (refused s) d e z = ap refused z
      go (refused r) (found b) d e z = absurd z
      go (found a) (refused s) d e z = absurd z
      go (found a) (found b) d e z = ap found (k a b d e z)

pub run-side-independence : (hash : List ℕ → List ℕ) → RunSideIndependence hash
run-side-independence hash f g h = through hash f g h (run_of f) (run_of g) (same-run hash f g h)

pub run-side-of-records : (hash : List ℕ → List ℕ) → RunSideOfRecords hash
run-side-of-records hash f g h =
    assoc (load hash f) (λ l. found (record_of l)) (λ r. found (run_record_of f r))
    ∙ through hash f g h (λ a. run_record_of f (record_of a)) (λ b. run_record_of g (record_of b)) (same-record hash f g h)
    ∙ sym (assoc (load hash g) (λ l. found (record_of l)) (λ r. found (run_record_of g r)))

-- The premises, byte by byte

-- a part whose bytes are the same
part_same : (f g : List ℕ) (at n : ℕ) → at + n ≤ length f → at + n ≤ length g → ((i : ℕ) → i < n → get_or f (at + i) 0 ≡ get_or g (at + i) 0) → part at n f ≡ part at n g
part_same f g at n h k e =
    let a = length_part f at n h in
    let b = length_part g at n k in
    ext_get_or 0 (part at n f) (part at n g) (a ∙ sym b) (λ i l. part_at f i (omega arith) ∙ e i (omega arith) ∙ sym (part_at g i (omega arith)))
  where
    part_at : (s : List ℕ) (i : ℕ) → i < n → get_or (part at n s) i 0 ≡ get_or s (at + i) 0
    part_at s i l = get_or-take n (drop at s) i 0 l ∙ get_or-drop at s i 0

byte-by-byte : (f g : List ℕ) → 256 ≤ length f → 256 ≤ length g → BytesAgree f g → HeadersAgree f g
byte-by-byte f g h k b =
    record {
      before-flags = part_same f g 0 7 (omega arith) (omega arith) (λ i l. b.bytes (0 + i) (identification (omega arith)));
      flags = b.flags;
      from-8-to-71 = part_same f g 8 64 (omega arith) (omega arith) (λ i l. b.bytes (8 + i) (content-and-reserved (omega arith) (omega arith)));
      from-104-to-135 = part_same f g 104 32 (omega arith) (omega arith) (λ i l. b.bytes (104 + i) (layout (omega arith) (omega arith)));
      from-192-to-255 = part_same f g 192 64 (omega arith) (omega arith) (λ i l. b.bytes (192 + i) (spec.runtime (omega arith) (omega arith)));
    }

pub premises : Premises
premises =
    record {
      whole-headers = λ f g h. (omega (arith, h.tasks.in-first), omega (arith, h.tasks.in-second));
      byte-by-byte = byte-by-byte;
    }
