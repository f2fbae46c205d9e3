-- The claims of `specs/Examples` hold, by computation; of BLAKE3 only the files' digests are used.
use Prim.Native.Nat.{ℕ}
use mathlib.Core.Path.{◌≡◌, refl}
use mathlib.Core.List.{List}
use mathlib.Core.Bool.{cond}
use lib.Dec.{eqb, lit≤}
use lib.ListN.{length}
use Rattle.reading.specs.Numbers.{le}
use Rattle.reading.specs.Reader.{bytes}
use Rattle.format.specs.Parts.{is_inside}
use Rattle.format.specs.Header.{runtime_of, directory_of, header_of}
use Rattle.format.specs.Tasks as task
use Rattle.format.specs.Types as types
use Rattle.format.specs.Constants as pool
use Rattle.format.specs.Code as code
use Rattle.format.specs.Debug.{line, tag_of, size_of, kind_of, payload_of, rows_of, debug_tables}
use Rattle.format.specs.Lines.{sorted, line_for}
use Rattle.format.specs.Integrity.{masked_header, section_in, hashed_in, hashed_string, content_fits, debug_hash_fits}
use Rattle.format.specs.Load.{load, read_in, has_types, types_found, debug_of, debug_found}
use Rattle.format.specs.Lookups.{read_at, debug_at, debug_in}
use Rattle.format.specs.RunSide.{placed, SameRunSide}
use Rattle.format.specs.Examples.{tiny_with, paste_limit, line_at, last_line}
use Rattle.format.proofs.Examples.{inside, the-found, sections, first-half-not-vacuous, types-premise-needed, empty-code-place-needed, second-half-not-vacuous}
use Rattle.reading.specs.Answer.{found}
use lib.IntN.{pos}
use Rattle.blake3.specs.Blake3.{blake3}
use Rattle.container.specs.Examples.{content_digest, tiny_digest, lines_digest, lines_more_digest, hashed_mill, hashed_mill_more, hashed_stripped, HashedRun, HashedDebug, HashDecides, Examples}
use Rattle.container.proofs.Digests.{Digests, digests}

premises : SameRunSide hashed_mill hashed_stripped
unfolding directory_of le
premises =
    record {
      first-limit = lit≤ tt;
      second-limit = lit≤ tt;
      headers = record { before-flags = refl; flags = refl; from-8-to-71 = refl; from-104-to-135 = refl; from-192-to-255 = refl };
      tasks = record { in-first = inside hashed_mill _ tt tt; in-second = inside hashed_stripped _ tt tt; sizes = refl; bytes = refl };
      types = placed (record { in-first = inside hashed_mill _ tt tt; in-second = inside hashed_stripped _ tt tt; sizes = refl; bytes = refl });
      constants = record { in-first = inside hashed_mill _ tt tt; in-second = inside hashed_stripped _ tt tt; sizes = refl; bytes = refl };
      code = record { in-first = inside hashed_mill _ tt tt; in-second = inside hashed_stripped _ tt tt; sizes = refl; bytes = refl };
    }

-- a hash with the same digests, to compute with
abbrev like : List ℕ → List ℕ
like s = cond (eqb (length s) 363) content_digest (cond (eqb (length s) 42) lines_digest lines_more_digest)

-- of any hash with these digests
module _ (hash : List ℕ → List ℕ) (d : Digests hash) where
  first-270 : paste_limit hash hashed_mill ≡ found (pos 270)
  unfolding load header_of runtime_of directory_of le bytes content_fits hashed_string hashed_in masked_header read_in section_in is_inside task.task_table task.task task.program types_found has_types types.type_tables types.fb_type types.array types.user_fb pool.constants pool.constant pool.kept_of code.code_of code.function read_at debug_found
  first-270 = rw d.of-content

  second-270 : paste_limit hash hashed_stripped ≡ found (pos 270)
  unfolding load header_of runtime_of directory_of le bytes content_fits hashed_string hashed_in masked_header read_in section_in is_inside task.task_table task.task task.program types_found has_types types.type_tables types.fb_type types.array types.user_fb pool.constants pool.constant pool.kept_of code.code_of code.function read_at debug_found
  second-270 = rw d.of-content

  hash-decides : HashDecides hash
  unfolding load header_of runtime_of directory_of le bytes content_fits hashed_string hashed_in masked_header read_in section_in is_inside task.task_table task.task task.program types_found has_types types.type_tables types.fb_type types.array types.user_fb pool.constants pool.constant pool.kept_of code.code_of code.function debug_found
  hash-decides = record { own = ((the-found (load (λ s. tiny_digest) (tiny_with tiny_digest 264)) tt).0, rw d.of-tiny); other = rw d.of-tiny }

  hashed-run : HashedRun hash
  hashed-run = record { checked = refl; premises = premises; first-answer = first-270; second-answer = second-270 }

  first-line : line_at hash hashed_mill 0 3 ≡ found last_line
  unfolding load header_of runtime_of directory_of le bytes content_fits hashed_string hashed_in masked_header read_in section_in is_inside task.task_table task.task task.program types_found has_types types.type_tables types.fb_type types.array types.user_fb pool.constants pool.constant pool.kept_of code.code_of code.function debug_found debug_of debug_hash_fits debug_tables rows_of payload_of tag_of size_of kind_of line debug_in debug_at line_for sorted
  first-line = rw (d.of-content, d.of-lines)

  second-line : line_at hash hashed_mill_more 0 3 ≡ found last_line
  unfolding load header_of runtime_of directory_of le bytes content_fits hashed_string hashed_in masked_header read_in section_in is_inside task.task_table task.task task.program types_found has_types types.type_tables types.fb_type types.array types.user_fb pool.constants pool.constant pool.kept_of code.code_of code.function debug_found debug_of debug_hash_fits debug_tables rows_of payload_of tag_of size_of kind_of line debug_in debug_at line_for sorted
  second-line = rw (d.of-content, d.of-lines-more)

  hashed-debug : HashedDebug hash
  unfolding load header_of runtime_of directory_of le bytes content_fits hashed_string hashed_in masked_header read_in section_in is_inside task.task_table task.task task.program types_found has_types types.type_tables types.fb_type types.array types.user_fb pool.constants pool.constant pool.kept_of code.code_of code.function debug_found debug_of debug_hash_fits debug_tables rows_of payload_of tag_of size_of kind_of line
  hashed-debug =
      let a = the-found (load like hashed_mill) tt in
      let b = the-found (load like hashed_mill_more) tt in
      record {
        checked = (refl, refl);
        first = a.0;
        second = b.0;
        first-loads = rw (d.of-content, d.of-lines);
        second-loads = rw (d.of-content, d.of-lines-more);
        premises = record {
          added = sections;
          first-inside = inside hashed_mill _ tt tt;
          second-inside = inside hashed_mill_more _ tt tt;
          first_fits = rw d.of-lines;
          second_fits = rw d.of-lines-more;
          first_reads = (_, refl);
        };
        first-answer = first-line;
        second-answer = second-line;
      }

pub examples : Examples
examples =
    record {
      hashed-run = hashed-run blake3 digests;
      hashed-debug = hashed-debug blake3 digests;
      hash-decides = hash-decides blake3 digests;
      first-half-not-vacuous = first-half-not-vacuous blake3;
      types-premise-needed = types-premise-needed blake3;
      empty-code-place-needed = empty-code-place-needed blake3;
      second-half-not-vacuous = second-half-not-vacuous blake3;
    }
