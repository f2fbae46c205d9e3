-- The lines of each section are paid for by the section's bytes.
use Prim.Native.Nat.{ℕ, ◌+◌, ◌≤◌}
use mathlib.Core.Path.{◌≡◌, refl}
use mathlib.Core.List.{List, [], ◌∷◌}
use mathlib.Core.Option.{some}
use native.Mathlib.Omega.{arith}
use lib.ListN.{length, length-append}
use Rattle.reading.specs.Reader.{Reader, ◌>>=◌, give}
use Rattle.reading.proofs.Local.{Local, local-bytes, local_counted}
use Rattle.format.specs.Parts.{by_bytes}
use Rattle.format.specs.Tasks.{TaskTable, task_table}
use Rattle.format.specs.Types.{TypeTables, type_tables}
use Rattle.format.specs.Constants.{Constant, constants}
use Rattle.format.specs.Code.{Code, code_of}
use Rattle.format.specs.Debug.{Kind, lines, variables, functions, strings, files, enumerations, unknown, payload, Row, tag_of, size_of, kind_of, payload_of}
use Rattle.format.specs.Debug.{Payload, of_lines, of_variables, of_functions, of_strings, of_files, of_enumerations, skipped, Tables, no_tables, put, tables_of, rows_of, debug_tables}
use Rattle.format.proofs.Readers.{local-variable, local-function_name, local-string_layout, local-source_file, local-enumeration}
use Rattle.entry_lines.specs.Lines.{task_line, program_line, array_line, user_fb_line, constant_line, function_line, line_line}
use Rattle.listing.specs.Listing.{each, indexed_from, fb_type_lines, type_lines}
use Rattle.listing_room.proofs.Costs.{Costs, costs-less, costs-give, costs-then, number-then, costs-last, costs-local, costs-each, counted-indexed, counted-each, counted-or-none}
use Rattle.listing_room.proofs.Entries.{costs-task, costs-program, costs-fb_type, costs-array, costs-user_fb, costs-constant, costs-function, costs-line}

abbrev pub of_tasks : TaskTable → ℕ
of_tasks t = length (each task_line t.tasks) + length (each program_line t.programs)

pub costs-tasks : Costs 0 4 of_tasks task_table
unfolding task_table
costs-tasks =
    number-then 2 λ n a.
    number-then 2 λ m b.
    number-then 2 λ g c.
    costs-then (costs-each task_line costs-task n) λ ts x.
    costs-then (costs-each program_line costs-program m) λ ps y.
    costs-give (omega arith)

abbrev pub of_types : TypeTables → ℕ
of_types t = length (type_lines (some t))

pub costs-types : Costs 0 5 of_types type_tables
unfolding type_tables
costs-types =
    costs-then (counted-each fb_type_lines costs-fb_type) λ bs x.
    costs-then (counted-indexed array_line costs-array) λ ns y.
    costs-then (counted-or-none user_fb_line costs-user_fb) λ us z.
    costs-give (simp length-append (omega arith))

abbrev pub of_constants : List (Constant (List ℕ)) → ℕ
of_constants cs = length (indexed_from 0 constant_line cs)

pub costs-constants : Costs 0 9 of_constants (constants by_bytes)
unfolding constants
costs-constants = counted-indexed constant_line costs-constant

abbrev pub of_code : Code → ℕ
of_code c = length (each function_line c.functions)

pub costs-code : (n : ℕ) → Costs 0 4 of_code (code_of n)
unfolding code_of
costs-code n = costs-then (costs-each function_line costs-function n) λ fs x. costs-last λ s. omega arith

-- Debug: only a table of lines has a text, and a later one replaces the earlier

abbrev pub of_debug : Tables (List ℕ) → ℕ
of_debug t = length (each line_line t.lines)

abbrev of_payload : Payload (List ℕ) → ℕ
of_payload (of_lines es) = length (each line_line es)
of_payload (of_variables es) = 0
of_payload (of_functions es) = 0
of_payload (of_strings es) = 0
of_payload (of_files es) = 0
of_payload (of_enumerations es) = 0
of_payload skipped = 0

put-costs : (x : Payload (List ℕ)) (t : Tables (List ℕ)) → of_debug (put x t) ≤ of_debug t + of_payload x
put-costs (of_lines es) t = omega arith
put-costs (of_variables es) t = omega arith
put-costs (of_functions es) t = omega arith
put-costs (of_strings es) t = omega arith
put-costs (of_files es) t = omega arith
put-costs (of_enumerations es) t = omega arith
put-costs skipped t = omega arith

-- a table without a text
unlisted : {A : Type 0} {r : Reader A} (made : A → Payload (List ℕ)) → Local r → ((a : A) → of_payload (made a) ≡ 0) → Costs 0 4 of_payload (r >>= λ a. give (made a))
unlisted made h e = costs-then (costs-local h) λ a x. costs-give (omega (arith, e a))

costs-payload : (k : Kind) (size : ℕ) → Costs 0 4 of_payload (payload by_bytes k size)
costs-payload lines size = costs-then (counted-each line_line costs-line) λ es x. costs-give (omega arith)
costs-payload variables size = unlisted of_variables (local_counted local-variable) λ es. refl
costs-payload functions size = unlisted of_functions (local_counted local-function_name) λ es. refl
costs-payload strings size = unlisted of_strings (local_counted local-string_layout) λ es. refl
costs-payload files size = unlisted of_files (local_counted local-source_file) λ es. refl
costs-payload enumerations size = unlisted of_enumerations (local_counted local-enumeration) λ es. refl
costs-payload unknown size = unlisted (λ b. skipped) (local-bytes size) λ b. refl

costs-row : (row : Row) → Costs 0 4 of_payload (payload_of by_bytes row)
unfolding payload_of
costs-row row = costs-payload (kind_of (tag_of row)) (size_of row)

costs-tables : (rows : List Row) (t : Tables (List ℕ)) → Costs (of_debug t) 4 of_debug (tables_of by_bytes rows t)
costs-tables [] t = costs-give (omega arith)
costs-tables (row ∷ rows) t = costs-then (costs-row row) λ x y. costs-less (λ u. omega (arith, put-costs x t)) (costs-tables rows (put x t))

pub costs-debug : Costs 0 4 of_debug (debug_tables by_bytes)
unfolding debug_tables rows_of each
costs-debug = costs-then (costs-local (local_counted (local-bytes 8))) λ rows x. costs-less (λ t. omega arith) (costs-tables rows no_tables)
