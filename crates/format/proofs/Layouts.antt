-- The layouts are as stated in `specs/Layouts`, by computing; and the bound on what is hashed.
use Prim.Native.Nat.{ℕ, ◌+◌, ◌≤◌}
use mathlib.Core.Path.{◌≡◌, refl, ap}
use mathlib.Core.Bool.{Bool, true, false, cond}
use mathlib.Core.List.{List, []}
use native.Mathlib.Omega.{arith}
use lib.Dec.{eqb}
use lib.ListN.{length, length-append, length-take}
use Rattle.utf8.specs.Utf8.{utf8, valid_up_to, valid_after, sequence_at}
use Rattle.reading.specs.Numbers.{le}
use Rattle.reading.specs.Reader.{bytes}
use Rattle.reading.specs.Answer.{found, ◌>>=◌, need}
use Rattle.format.specs.Faults.{section_size_mismatch}
use Rattle.format.specs.Parts.{limit, Place, cut, is_inside}
use Rattle.format.specs.Header.{runtime_of, directory_of, header_of}
use Rattle.format.specs.Integrity.{masked_header, section_in, hashed_in, hashed_string, content_fits, debug_hash_fits}
use Rattle.format.specs.Tasks as task
use Rattle.format.specs.Types as types
use Rattle.format.specs.Constants as pool
use Rattle.format.specs.Code as code
use Rattle.format.specs.Debug.{line, variable, function_name, string_layout, source_file, enumeration, text, name, path, tag_of, size_of, kind_of, payload_of, rows_of, debug_tables}
use Rattle.format.specs.Lines.{sorted, line_for}
use Rattle.format.specs.Load.{load, read_in, has_types, types_found, debug_of, debug_found}
use Rattle.format.specs.Layouts.{Layouts, MillCounts, HashLimit}
use Rattle.format.proofs.Answers.{never, same-found, steps}
use Rattle.format.proofs.Places.{inside_is, length_cut}

pub layouts : Layouts
unfolding le bytes runtime_of directory_of masked_header section_in hashed_in hashed_string is_inside task.task_table task.task task.program types.fb_type types.field types.array types.user_fb pool.constant pool.kept_of code.function line variable function_name string_layout source_file enumeration text name path tag_of size_of kind_of payload_of rows_of debug_tables sorted line_for debug_of utf8 valid_up_to valid_after sequence_at
layouts =
    record {
      header = refl;
      masked = refl;
      hashed = refl;
      task = refl;
      program = refl;
      task_table = refl;
      fb_type = refl;
      array = refl;
      stride-9 = refl;
      user_fb = refl;
      string = refl;
      signs = (refl, refl, refl);
      function = refl;
      line = refl;
      variable = refl;
      function_name = refl;
      string_layout = refl;
      source_file = refl;
      enumeration = refl;
      row = (refl, refl);
      known-tags = (refl, refl, refl, refl, refl, refl);
      unknown-tags = (refl, refl, refl, refl, refl);
      replaced = refl;
      unsorted = λ function query. refl;
      by-function-first = λ query. refl;
    }

pub mill-counts : (hash : List ℕ → List ℕ) → MillCounts hash
unfolding load header_of runtime_of directory_of le bytes content_fits read_in section_in is_inside task.task_table task.task task.program types_found has_types types.type_tables types.fb_type types.array types.user_fb pool.constants pool.constant pool.kept_of code.code_of code.function debug_found debug_of debug_hash_fits debug_tables rows_of payload_of tag_of size_of kind_of line
mill-counts hash = record { tasks = refl; types = refl; constants = refl; debug = refl }

-- What is hashed is bounded

length-masked : (f : List ℕ) → length (masked_header f) ≤ 256
unfolding masked_header
length-masked f = simp (length-append, length-take) (omega arith)

length-hashed : (f : List ℕ) (p : Place) (s : List ℕ) → length f ≤ limit → hashed_in f p ≡ found s → length s + 256 ≤ limit
unfolding hashed_in section_in
length-hashed f p s h e = go (eqb p.size 0) (is_inside f p) refl e
  where
    go : (y z : Bool) → is_inside f p ≡ z → cond y (found []) (need z section_size_mismatch >>= λ u. found (cut f p)) ≡ found s → length s + 256 ≤ limit
    go true z i e = let q : [] ≡ s = same-found e in omega (arith, ap length q)
    go false true i e =
        let q : cut f p ≡ s = same-found e in
        let k = inside_is f p i in
        omega (arith, ap length q, length_cut f p i)
    go false false i e = never e

pub hash-limit : HashLimit
unfolding hashed_string
hash-limit =
    record {
      is = refl;
      holds = λ f d s h e.
          let t = steps (hashed_in f d.tasks) e in
          let y = steps (hashed_in f d.types) t.second in
          let c = steps (hashed_in f d.constants) y.second in
          let k = steps (hashed_in f d.code) c.second in
          let z = same-found k.second in
          let a = length-hashed f d.tasks t.item h t.first in
          let b = length-hashed f d.types y.item h y.first in
          let g = length-hashed f d.constants c.item h c.first in
          let i = length-hashed f d.code k.item h k.first in
          let m = length-masked f in
          omega (arith, simp length-append at (ap length z));
    }
