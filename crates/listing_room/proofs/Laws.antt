-- The claims of `specs/Laws.antt`: what a load that finds has read of each section, and the lines of no table.
use Prim.Native.Nat.{ℕ, suc, ◌+◌, ◌*◌, ◌≤◌}
use mathlib.Core.Path.{◌≡◌, refl, sym, ap, ◌∙◌}
use mathlib.Core.Bool.{Bool, true, false}
use mathlib.Core.List.{List, [], ◌∷◌}
use mathlib.Core.Option.{Option, none, some}
use native.Mathlib.Nat.{mul-le-mul_left, zero-add}
use native.Mathlib.Omega.{arith}
use lib.ListN.{length, length-append, length-take, length-drop}
use borrow.Author.Tests.{leb-true, leb-false, le-leb}
use lib.Dec.{leb}
use Rattle.reading.specs.Fault.{Fault}
use Rattle.reading.specs.Reader.{Read, fault, got, Reader}
use Rattle.reading.specs.Answer.{Got, refused, found, need, item_of}
use Rattle.reading.proofs.Le.{Bytes, bytes-part}
use Rattle.format.specs.Faults.{section_size_mismatch, too_long}
use Rattle.format.specs.Parts.{program_limit, Place, cut, is_inside, by_bytes}
use Rattle.format.specs.Header.{Header}
use Rattle.format.specs.Types.{TypeTables}
use Rattle.format.specs.Debug.{Tables, debug_tables}
use Rattle.format.specs.Integrity.{section_in}
use Rattle.format.specs.Load.{Loaded, read_in, readable, types_found, debug_of, debug_found, load}
use Rattle.format.specs.Record.{debug_counts, for_program}
use Rattle.format.specs.Refusals.{OfTasks, OfTypes, OfConstants, OfCode, OfLoading, Only}
use Rattle.format.proofs.Answers.{absent, same-found, same_some, steps, item-got}
use Rattle.format.proofs.ProgramLimit.{within-limit, above-limit}
use Rattle.format.proofs.Loads.{facts, types-read, debug-read}
use Rattle.format.proofs.Refusals.{refusals}
use Rattle.base.specs.Error.{refusal_number, refusal_values}
use Rattle.std.specs.Prelude.{Some}
use Rattle.lent.specs.Output.{put_answer}
use Rattle.text.specs.Text.{ascii, digits, numbers}
use Rattle.text.proofs.Parts.{numbers_short}
use Rattle.entry_lines.specs.Lines.{line_line}
use Rattle.listing.specs.Lines.{debug_line, values_line, refused_line}
use Rattle.listing.specs.Listing.{each, type_lines, debug_lines, listing_of}
use Rattle.listing_room.specs.Laws.{listing_room, AllLaws}
use Rattle.listing_room.proofs.Short.{ended-short}
use Rattle.listing_room.proofs.Costs.{Costs}
use Rattle.listing_room.proofs.Sections.{costs-tasks, costs-types, costs-constants, costs-code, costs-debug}

-- A section that was read, in a file of bytes

module _ {A : Type 0} {k : ℕ} {len : A → ℕ} {r : Reader A} (h : Costs 0 k len r) (f : List ℕ) (b : Bytes f) (p : Place) where
  read_short : (a : A) → item_of (r (cut f p)) ≡ found a → len a ≤ k * length f
  read_short a e =
      let x = item-got (r (cut f p)) a e in
      let l : length (cut f p) ≤ length f = simp (length-take, length-drop) (omega arith) in
      omega (arith, (h.pays (cut f p) a x.0 (bytes-part f p.offset p.size b) x.1).1, mul-le-mul_left k l)

  section-short : (a : A) → read_in f p r ≡ found a → len a ≤ k * length f
  unfolding read_in section_in
  section-short a e =
      let x = steps (section_in f p) e in
      let y = steps (need (is_inside f p) section_size_mismatch) x.first in
      read_short a (rw (sym (same-found y.second)) at x.second)

types-short : (f : List ℕ) → Bytes f → (h : Header) (x : Option TypeTables) → types_found f h ≡ found x → length (type_lines x) ≤ 5 * length f
types-short f b h none e = omega arith
types-short f b h (some t) e = read_short costs-types f b h.directory.types t (types-read f h t e).1

-- with the line of the counts
counts-short : (t : Tables (List ℕ)) → length (debug_line (debug_counts (some t))) ≤ 150
counts-short t =
    omega (
      arith,
      ended-short (ascii "debug")
          (length t.lines ∷ length t.variables ∷ length t.functions ∷ length t.strings ∷ length t.files ∷ length t.enumerations ∷ []) (ascii "\n"),
    )

readable-item : {A : Type 0} (x : Read A) (a : A) → readable x ≡ some a → item_of x ≡ found a
readable-item (fault f) a e = absent e
readable-item (got c t) a e = ap found (same_some e)

debug-short : (hash : List ℕ → List ℕ) (f : List ℕ) → Bytes f → (h : Header) (x : Option (Tables (List ℕ))) → debug_found hash f h ≡ x
    → length (debug_lines x) ≤ 4 * length f + 150
unfolding debug_of
debug-short hash f b h none e = omega arith
debug-short hash f b h (some t) e =
    let i = readable-item (debug_tables by_bytes (cut f h.directory.debug)) t (debug-read hash f h t e).1 in
    omega (
      arith,
      counts-short t,
      read_short costs-debug f b h.directory.debug t i,
      length-append (debug_line (debug_counts (some t))) (each line_line t.lines),
    )

found-short : (hash : List ℕ → List ℕ) (f : List ℕ) → Bytes f → (l : Loaded) → load hash f ≡ found l → length (listing_of (found l)) ≤ 26 * length f + 300
found-short hash f b l e =
    let k = facts hash f l e in
    let h = l.header in
    let d = h.directory in
    let ts = section-short costs-tasks f b d.tasks l.tasks k.tasks in
    let ys = types-short f b h l.types k.types in
    let cs = section-short costs-constants f b d.constants l.constants k.constants in
    let fs = section-short (costs-code h.runtime.functions) f b d.code l.code k.code in
    let ds = debug-short hash f b h l.debug k.debug in
    let c = numbers_short (h.version ∷ h.profile ∷ h.flags ∷ []) in
    simp length-append (omega arith)

-- A refused file: a refusal has at most two values

few-of-tasks : {f : Fault} → OfTasks f → length (refusal_values f) ≤ 2
few-of-tasks OfTasks.short = omega arith
few-of-tasks (OfTasks.task-type kind h) = omega arith

few-of-types : {f : Fault} → OfTypes f → length (refusal_values f) ≤ 2
few-of-types OfTypes.short = omega arith
few-of-types (OfTypes.field-type kind h) = omega arith
few-of-types (OfTypes.stride kind extra stride h) = omega arith

few-of-constants : {f : Fault} → OfConstants f → length (refusal_values f) ≤ 2
few-of-constants OfConstants.short = omega arith
few-of-constants (OfConstants.constant-type kind h) = omega arith
few-of-constants (OfConstants.constant-size kind size h g) = omega arith

few-of-code : {f : Fault} → OfCode f → length (refusal_values f) ≤ 2
few-of-code OfCode.short = omega arith

few-values : {f : Fault} → OfLoading f → length (refusal_values f) ≤ 2
few-values OfLoading.too-long = omega arith
few-values OfLoading.short-header = omega arith
few-values OfLoading.magic = omega arith
few-values OfLoading.version = omega arith
few-values OfLoading.place = omega arith
few-values OfLoading.hash-unequal = omega arith
few-values (OfLoading.tasks h) = few-of-tasks h
few-values (OfLoading.types h) = few-of-types h
few-values (OfLoading.constants h) = few-of-constants h
few-values (OfLoading.code h) = few-of-code h

values-short : (n : ℕ) (vs : List ℕ) → length (values_line n vs) ≤ 10 + 21 * suc (length vs)
values-short n [] = omega (arith, ended-short (ascii "refused") (n ∷ []) (ascii " -\n"))
values-short n (v ∷ vs) = omega (arith, ended-short (ascii "refused") (n ∷ v ∷ vs) (ascii "\n"))

short : (hash : List ℕ → List ℕ) (f : List ℕ) → Bytes f → (x : Got Loaded) → load hash f ≡ x → Only OfLoading x → length (listing_of x) ≤ 26 * length f + 300
short hash f b (found l) e o = found-short hash f b l e
short hash f b (refused g) e o = omega (arith, few-values o, values-short (refusal_number g) (refusal_values g))

linear : (hash : List ℕ → List ℕ) (f : List ℕ) → Bytes f → length (listing_of (load hash f)) ≤ 26 * length f + 300
linear hash f b = short hash f b (load hash f) refl ((refusals hash).loading f)

put-where-fits : (before t : List ℕ) → length t ≤ length before → put_answer before 0 t ≡ Some (length t)
unfolding put_answer
put-where-fits before t h = rw (le-leb (0 + length t) (length before) (omega arith)) (ap Some (zero-add (length t)))

line-of-10 : refused_line too_long ≡ ascii "refused 10 -\n"
unfolding numbers digits
line-of-10 = refl

-- what a program lists: 10 above its limit, and else the library's listing
fits : (hash : List ℕ → List ℕ) (f : List ℕ) → Bytes f → length (listing_of (for_program f (load hash f))) ≤ listing_room
fits hash f b = go (leb (length f) program_limit) refl
  where
    go : (z : Bool) → leb (length f) program_limit ≡ z → length (listing_of (for_program f (load hash f))) ≤ listing_room
    go true e = let h = leb-true (length f) program_limit e in rw (within-limit f (load hash f) h) (omega (arith, linear hash f b))
    go false e = let h = leb-false (length f) program_limit e in rw (above-limit f (load hash f) h) (omega (arith, values-short 10 []))

pub laws : AllLaws
laws hash =
    record {
      linear = linear hash;
      within = λ f h. ap listing_of (within-limit f (load hash f) h);
      above = λ f h. ap listing_of (above-limit f (load hash f) h) ∙ line-of-10;
      fits = fits hash;
      always-put = λ f before b r. put-where-fits before (listing_of (for_program f (load hash f))) (omega (arith, fits hash f b));
    }
