-- The files of `specs/Examples` and the cases are as stated there, by computing.
use Prim.Native.Nat.{ℕ, ◌+◌}
use mathlib.Core.Path.{◌≡◌, refl}
use mathlib.Core.Bool.{Bool, true, false}
use mathlib.Core.List.{List, [], ◌∷◌}
use lib.Dec.{T, leb, le→leb, lit≤}
use lib.ListN.{length}
use Rattle.utf8.specs.Utf8.{utf8, valid_up_to, valid_after, sequence_at}
use Rattle.reading.specs.Numbers.{le}
use Rattle.reading.specs.Reader.{bytes}
use Rattle.reading.specs.Answer.{Got, refused, found}
use Rattle.format.specs.Parts.{Place, is_inside, Inside}
use Rattle.format.specs.Header.{runtime_of, directory_of, header_of}
use Rattle.format.specs.Tasks as task
use Rattle.format.specs.Types as types
use Rattle.format.specs.Constants as pool
use Rattle.format.specs.Code as code
use Rattle.format.specs.Debug.{line, tag_of, size_of, kind_of, payload_of, rows_of, debug_tables}
use Rattle.format.specs.Lines.{sorted, line_for}
use Rattle.format.specs.Integrity.{masked_header, section_in, hashed_in, hashed_string, content_fits, debug_hash_fits}
use Rattle.format.specs.Load.{load, read_in, has_types, types_found, debug_of, debug_found}
use Rattle.format.specs.Lookups.{read_at, debug_at, debug_in}
use Rattle.format.specs.RunSide.{placed, empty, SameRunSide}
use Rattle.format.specs.Added.{RowAndPayload, end, kept, added, Added}
use Rattle.format.specs.Examples.{line_row, line_table, lines, unknown_row, unknown_table, lines_more, mill, stripped, mill_more, types_inside, types_before, tiny, displaced, hashed}
use Rattle.format.specs.Examples.{FirstHalfNotVacuous, TypesPremiseNeeded, EmptyCodePlaceNeeded, ContentHashNeeded, SecondHalfNotVacuous}
use Rattle.format.specs.Cases.{Cases, WrongTurns}

pub inside : (f : List ℕ) (p : Place) → T (leb 256 p.offset) → T (leb (p.offset + p.size) (length f)) → Inside f p
inside f p a b = record { behind = lit≤ a; within = lit≤ b }

-- what was found, where something was
abbrev pub is_found : {A : Type 0} → Got A → Bool
is_found (refused r) = false
is_found (found a) = true

abbrev pub the-found : {A : Type 0} (x : Got A) → T (is_found x) → (a : A) × (x ≡ found a)
the-found (refused r) h = absurd h
the-found (found a) h = (a, refl)

-- The first half

premises : SameRunSide mill stripped
unfolding directory_of le
premises =
    record {
      first-limit = lit≤ tt;
      second-limit = lit≤ tt;
      headers = record { before-flags = refl; flags = refl; from-8-to-71 = refl; from-104-to-135 = refl; from-192-to-255 = refl };
      tasks = record { in-first = inside mill _ tt tt; in-second = inside stripped _ tt tt; sizes = refl; bytes = refl };
      types = placed (record { in-first = inside mill _ tt tt; in-second = inside stripped _ tt tt; sizes = refl; bytes = refl });
      constants = record { in-first = inside mill _ tt tt; in-second = inside stripped _ tt tt; sizes = refl; bytes = refl };
      code = record { in-first = inside mill _ tt tt; in-second = inside stripped _ tt tt; sizes = refl; bytes = refl };
    }

pub first-half-not-vacuous : (hash : List ℕ → List ℕ) → FirstHalfNotVacuous hash
unfolding load header_of runtime_of directory_of le bytes content_fits read_in section_in is_inside task.task_table task.task task.program types_found has_types types.type_tables types.fb_type types.array types.user_fb pool.constants pool.constant pool.kept_of code.code_of code.function read_at
first-half-not-vacuous hash = record { lengths = (refl, refl); premises = premises; first-answer = refl; second-answer = refl }

pub types-premise-needed : (hash : List ℕ → List ℕ) → TypesPremiseNeeded hash
unfolding load header_of runtime_of directory_of le bytes content_fits read_in section_in is_inside task.task_table task.task task.program types_found has_types types.type_tables types.fb_type types.array types.user_fb pool.constants pool.constant pool.kept_of code.code_of code.function read_at
types-premise-needed hash =
    record {
      limits = (lit≤ tt, lit≤ tt);
      headers = record { before-flags = refl; flags = refl; from-8-to-71 = refl; from-104-to-135 = refl; from-192-to-255 = refl };
      tasks = record { in-first = inside types_inside _ tt tt; in-second = inside types_before _ tt tt; sizes = refl; bytes = refl };
      constants = record { in-first = inside types_inside _ tt tt; in-second = inside types_before _ tt tt; sizes = refl; bytes = refl };
      code = record { in-first = inside types_inside _ tt tt; in-second = inside types_before _ tt tt; sizes = refl; bytes = refl };
      types-sizes = refl;
      types-bytes = refl;
      types-in-first = inside types_inside _ tt tt;
      types-not-in-second = λ h. le→leb _ _ h.behind;
      first-answer = refl;
      second-answer = refl;
    }

pub empty-code-place-needed : (hash : List ℕ → List ℕ) → EmptyCodePlaceNeeded hash
unfolding load header_of runtime_of directory_of le bytes content_fits read_in section_in is_inside task.task_table types_found has_types pool.constants code.code_of
empty-code-place-needed hash =
    record {
      limits = (lit≤ tt, lit≤ tt);
      headers = record { before-flags = refl; flags = refl; from-8-to-71 = refl; from-104-to-135 = refl; from-192-to-255 = refl };
      tasks = record { in-first = inside tiny _ tt tt; in-second = inside displaced _ tt tt; sizes = refl; bytes = refl };
      types = empty refl refl;
      constants = record { in-first = inside tiny _ tt tt; in-second = inside displaced _ tt tt; sizes = refl; bytes = refl };
      code-in-first = inside tiny _ tt tt;
      code-empty = (refl, refl);
      first-loads = the-found (load hash tiny) tt;
      second-refused = refl;
    }

pub content-hash-needed : (hash : List ℕ → List ℕ) → ContentHashNeeded hash
unfolding load header_of runtime_of directory_of le bytes content_fits hashed_string hashed_in masked_header read_in section_in is_inside task.task_table types_found has_types pool.constants code.code_of
content-hash-needed hash =
    record {
      limits = (lit≤ tt, lit≤ tt);
      up-to-7 = refl;
      from-40-to-135 = refl;
      from-192-to-255 = refl;
      tasks = record { in-first = inside tiny _ tt tt; in-second = inside hashed _ tt tt; sizes = refl; bytes = refl };
      types = empty refl refl;
      constants = record { in-first = inside tiny _ tt tt; in-second = inside hashed _ tt tt; sizes = refl; bytes = refl };
      code = record { in-first = inside tiny _ tt tt; in-second = inside hashed _ tt tt; sizes = refl; bytes = refl };
      first-loads = the-found (load hash tiny) tt;
      second-refused = λ never. rw (never _);
    }

-- The second half

-- the sections: M's has the row of lines, the other an unknown row before it
pub sections : Added lines lines_more
unfolding rows_of bytes le payload_of tag_of size_of kind_of line
sections =
    let known : RowAndPayload = record { row = line_row 0; payload = line_table } in
    let other : RowAndPayload = record { row = unknown_row; payload = unknown_table } in
    record {
      old = record { parts = known ∷ []; behind_rows = line_table; rest = []; rows = refl; takes = (_, [], refl, refl, refl) };
      new = other ∷ known ∷ [];
      interleaved = added (record { whole = refl; not_listed = refl; sized = refl }) (kept end);
      low = 2;
      high = 0;
      count = refl;
      holds = refl;
    }

pub second-half-not-vacuous : (hash : List ℕ → List ℕ) → SecondHalfNotVacuous hash
unfolding load header_of runtime_of directory_of le bytes content_fits read_in section_in is_inside task.task_table task.task task.program types_found has_types types.type_tables types.fb_type types.array types.user_fb pool.constants pool.constant pool.kept_of code.code_of code.function debug_found debug_of debug_hash_fits debug_tables rows_of payload_of tag_of size_of kind_of line debug_in debug_at line_for sorted
second-half-not-vacuous hash =
    let a = the-found (load hash mill) tt in
    let b = the-found (load hash mill_more) tt in
    record {
      first = a.0;
      second = b.0;
      first-loads = a.1;
      second-loads = b.1;
      premises = record {
        added = sections;
        first-inside = inside mill _ tt tt;
        second-inside = inside mill_more _ tt tt;
        first_fits = refl;
        second_fits = refl;
        first_reads = (_, refl);
      };
      first-answer = refl;
      second-answer = refl;
    }

-- The starred cases, and the wrong turns

pub cases : (hash : List ℕ → List ℕ) → Cases hash
unfolding load header_of runtime_of directory_of le bytes content_fits read_in section_in is_inside task.task_table task.task task.program types_found has_types types.type_tables types.fb_type types.array types.user_fb pool.constants pool.constant pool.kept_of code.code_of code.function debug_found debug_of debug_hash_fits debug_tables rows_of payload_of tag_of size_of kind_of line debug_in debug_at line_for sorted utf8 valid_up_to valid_after sequence_at
cases hash =
    record {
      strides = (refl, refl, λ extra. refl, refl);
      stride-15 = refl;
      stride-17 = refl;
      index-0 = refl;
      index-1 = refl;
      size-9 = refl;
      no-user-fbs = refl;
      largest = refl;
      too_large = refl;
      line-1 = refl;
      column-9 = refl;
      function-1 = λ offset. refl;
      texts = (refl, refl, refl);
      empty-debug = refl;
      empty-line = λ function offset. refl;
    }

pub wrong-turns : (hash : List ℕ → List ℕ) → WrongTurns hash
unfolding load header_of runtime_of directory_of le bytes content_fits read_in section_in is_inside task.task_table task.task task.program types_found has_types types.type_tables types.fb_type types.array types.user_fb pool.constants pool.constant pool.kept_of code.code_of code.function read_at debug_found debug_of debug_hash_fits debug_tables rows_of payload_of tag_of size_of kind_of line debug_in debug_at line_for sorted
wrong-turns hash = record { flag-not-asked = refl; row-size-ignored = refl; stored-id-ignored = refl; last-of-equals = refl }
