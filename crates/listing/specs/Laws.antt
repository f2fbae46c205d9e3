-- The listing of the mill file M, as document 01 prints it, and lines of the kinds that M lacks.
use Rattle.std.specs.Prelude.{ℕ, List, [], ◌∷◌, ◌++◌, ◌≡◌}
use Rattle.std.proofs.Math.Option.{some}
use Rattle.format.specs.Faults.{invalid_task_type, invalid_array_stride}
use Rattle.format.specs.Tasks.{Task, Program}
use Rattle.format.specs.Types.{TypeTables}
use Rattle.format.specs.Constants.{string}
use Rattle.format.specs.Code.{Function}
use Rattle.format.specs.Debug.{Line, no_tables}
use Rattle.format.specs.Record.{DebugCounts}
use Rattle.format.specs.Load.{load}
use Rattle.format.specs.Examples.{mill, tiny}
use Rattle.format.specs.Cases.{slots}
use Rattle.text.specs.Text.{ascii}
use Rattle.entry_lines.specs.Lines.{task_line, program_line, constant_line, function_line, line_line}
use Rattle.listing.specs.Lines.{debug_line, refused_line}
use Rattle.listing.specs.Listing.{type_lines, debug_lines, listing_of}

-- an FB type with two fields and one with none; two arrays, the second too large to have a size; a user FB
abbrev pub some_types : TypeTables
some_types =
    record {
      fb_types =
          record { id = 7; fields = record { kind = 0; extra = 0 } ∷ record { kind = 6; extra = 10 } ∷ [] }
          ∷ record { id = 8; fields = [] }
          ∷ [];
      arrays = slots 536870911 ∷ slots 536870912 ∷ [];
      user_fbs = record { id = 9; function = 1; variable_offset = 2; field_count = 3 } ∷ [];
    }

-- what the lister, fed M, prints
abbrev pub mill_text : List ℕ
mill_text =
    ascii "container 4 0 6\n"
    ++ ascii "task 0 1 0 0 20000 65535 50000 0 0\n"
    ++ ascii "program 0 0 0 0 4 0 0 0\n"
    ++ ascii "array 0 6 3 10 16 48\n"
    ++ ascii "constant 0 0 0e01000000000000\n"
    ++ ascii "constant 1 6 6b67\n"
    ++ ascii "function 0 0 5 8 2 0\n"
    ++ ascii "debug 3 0 0 0 0 0\n"
    ++ ascii "line 0 0 0 1 1\n"
    ++ ascii "line 0 3 0 2 5\n"
    ++ ascii "line 0 3 0 2 9\n"
    ++ ascii "end\n"

-- entries no two fields of which are equal
abbrev pub some_task : Task
some_task =
    record {
      id = 1;
      priority = 2;
      kind = 0;
      flags = 3;
      interval = 4;
      single_variable = 5;
      watchdog = 6;
      input_image_offset = 7;
      output_image_offset = 8;
      reserved = 9 ∷ 9 ∷ 9 ∷ 9 ∷ [];
    }

abbrev pub some_program : Program
some_program =
    record {
      instance = 1;
      task = 2;
      entry_function = 3;
      variable_offset = 4;
      variable_count = 5;
      fb_instance_offset = 6;
      fb_instance_count = 7;
      init_function = 8;
    }

abbrev pub some_function : Function
some_function = record { id = 1; offset = 2; size = 3; max_stack_depth = 4; locals = 5; parameters = 6 }

abbrev pub some_line : Line
some_line = record { function = 1; offset = 2; file = 3; line = 4; column = 5 }

abbrev pub some_counts : DebugCounts
some_counts = record { lines = 1; variables = 2; functions = 3; strings = 4; files = 6; enumerations = 9 }

pub record Laws (hash : List ℕ → List ℕ) : Type 0 where
  -- fields in file order, without reserved ones
  pub task-listed : task_line some_task ≡ ascii "task 1 2 0 3 4 5 6 7 8\n"
  pub program-listed : program_line some_program ≡ ascii "program 1 2 3 4 5 6 7 8\n"
  pub function-listed : function_line some_function ≡ ascii "function 1 2 3 4 5 6\n"
  pub line-listed : line_line some_line ≡ ascii "line 1 2 3 4 5\n"
  -- the counts of tags 1, 2, 3, 4, 6, 9
  pub counts-listed : debug_line (some some_counts) ≡ ascii "debug 1 2 3 4 6 9\n"
  pub mill-listed : listing_of (load hash mill) ≡ mill_text
  -- a file with no tasks, types, constants, functions or debug
  pub tiny-listed : listing_of (load hash tiny) ≡ ascii "container 4 0 0\ndebug none\nend\n"
  pub short-refused : listing_of (load hash []) ≡ ascii "refused 1 -\n"
  pub one_value : refused_line (invalid_task_type 3) ≡ ascii "refused 6 3\n"
  pub two-values : refused_line (invalid_array_stride 6 15) ≡ ascii "refused 8 6 15\n"
  pub types-listed : type_lines (some some_types) ≡ ascii "fbtype 7 2\nfield 0 0\nfield 6 10\nfbtype 8 0\narray 0 0 536870911 0 8 4294967288\narray 1 0 536870912 0 8 -\nuserfb 9 1 2 3\n"
  -- a string of no bytes
  pub nothing-kept : constant_line 5 (record { kind = 7; kept = string [] }) ≡ ascii "constant 5 7 -\n"
  -- debug with six empty tables
  pub zeros-counted : debug_lines (some no_tables) ≡ ascii "debug 0 0 0 0 0 0\n"

-- for any hash
abbrev pub AllLaws : Type 0
AllLaws = (hash : List ℕ → List ℕ) → Laws hash
