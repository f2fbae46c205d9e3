-- Slip 2's examples, by computing them.
use mathlib.Core.Path.{◌≡◌, refl}
use mathlib.Core.List.{List}
use Prim.Native.Nat.{ℕ}
use Rattle.reading.specs.Numbers.{le}
use Rattle.reading.specs.Reader.{bytes}
use Rattle.reading.specs.Answer.{found, ◌>>=◌}
use Rattle.format.specs.Parts.{is_inside}
use Rattle.format.specs.Header.{header_of, runtime_of, directory_of}
use Rattle.format.specs.Integrity.{section_in, content_fits, debug_hash_fits}
use Rattle.format.specs.Tasks as task
use Rattle.format.specs.Types as types
use Rattle.format.specs.Constants as pool
use Rattle.format.specs.Code as code
use Rattle.format.specs.Debug.{line, tag_of, size_of, kind_of, payload_of, rows_of, debug_tables}
use Rattle.format.specs.InForce.{rows_with, in_force_in}
use Rattle.format.specs.Load.{read_in, has_types, types_found, debug_of, debug_found, load}
use Rattle.format.specs.Record.{read_from}
use Rattle.format.specs.Examples.{mill_more}
use Rattle.requests.specs.RowsInForce.{only_lines, InForceExamples}

pub in-force-examples : (hash : List ℕ → List ℕ) → InForceExamples hash
unfolding load header_of runtime_of directory_of le bytes content_fits read_in section_in is_inside task.task_table task.task task.program types_found has_types types.type_tables types.fb_type types.array types.user_fb pool.constants pool.constant pool.kept_of code.code_of code.function debug_found debug_of debug_hash_fits debug_tables rows_of payload_of tag_of size_of kind_of line in_force_in rows_with
in-force-examples hash = record { one-table = refl; two-tables = refl; empty-last = refl; no-debug = refl; unreadable = refl; each-its-own = refl }

-- M with an unknown table in front of its lines
pub shifted : (hash : List ℕ → List ℕ) → (read_from hash mill_more >>= λ r. found r.in_force) ≡ found (only_lines 1 0)
unfolding load header_of runtime_of directory_of le bytes content_fits read_in section_in is_inside task.task_table task.task task.program types_found has_types types.type_tables types.fb_type types.array types.user_fb pool.constants pool.constant pool.kept_of code.code_of code.function debug_found debug_of debug_hash_fits debug_tables rows_of payload_of tag_of size_of kind_of line in_force_in rows_with
shifted hash = refl
