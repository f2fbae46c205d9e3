-- Every lookup over a file and a record (document 01: "All lookups take file and record"), as numbers and by its kind: a refusal's number and values, or 0
-- and the answer's numbers.
use Rattle.std.specs.Prelude.{ℕ, ◌≡◌, cond, ltb, List, [], ◌∷◌, get_or, Result, Ok, Err}
use Rattle.std.proofs.Math.Option.{Option, none, some}
use Rattle.format.specs.Parts.{Place}
use Rattle.format.specs.Record.{Container}
use Rattle.format.specs.Lookups.{RunAnswers, DebugAnswers, run_answers, debug_answers}
use Rattle.answer_numbers.specs.Fields.{answer_numbers, value_numbers, part_numbers, signed_numbers, task_numbers, program_numbers, fb_type_numbers, field_numbers, array_numbers, user_fb_numbers, constant_numbers, function_numbers, line_numbers, variable_numbers, function_name_numbers, layout_numbers, source_numbers, enumeration_numbers}
use Rattle.lookup_kinds.specs.declared.kinds.Kind.{Kind}
use Rattle.lookup_kinds.specs.declared.kinds.Kind.TheVariants as kind
use Rattle.lookup_kinds.specs.declared.kinds.UnknownKind.{UnknownKind}

-- Every lookup, with the indexes i and j. A lookup's place in this list is its kind
unfoldable pub lookups_of : RunAnswers Place → DebugAnswers Place → ℕ → ℕ → List (List ℕ)
lookups_of run debug i j =
    answer_numbers task_numbers (run.task i)  -- 0 TASK
    ∷ answer_numbers program_numbers (run.program i)  -- 1 PROGRAM
    ∷ answer_numbers fb_type_numbers (run.fb_type i)  -- 2 FB_TYPE
    ∷ answer_numbers field_numbers (run.field i j)  -- 3 FIELD
    ∷ answer_numbers array_numbers (run.array i)  -- 4 ARRAY
    ∷ answer_numbers value_numbers (run.array_size i)  -- 5 ARRAY_SIZE
    ∷ answer_numbers user_fb_numbers (run.user_fb i)  -- 6 USER_FB
    ∷ answer_numbers constant_numbers (run.constant i)  -- 7 CONSTANT
    ∷ answer_numbers signed_numbers (run.i32 i)  -- 8 GET_I32
    ∷ answer_numbers value_numbers (run.u32 i)  -- 9 GET_U32
    ∷ answer_numbers signed_numbers (run.i64 i)  -- 10 GET_I64
    ∷ answer_numbers value_numbers (run.u64 i)  -- 11 GET_U64
    ∷ answer_numbers value_numbers (run.f32 i)  -- 12 GET_F32
    ∷ answer_numbers value_numbers (run.f64 i)  -- 13 GET_F64
    ∷ answer_numbers part_numbers (run.string i)  -- 14 GET_STR
    ∷ answer_numbers value_numbers (run.char_width i)  -- 15 CHAR_WIDTH
    ∷ answer_numbers function_numbers (run.function i)  -- 16 FUNCTION
    ∷ answer_numbers part_numbers (run.bytecode i)  -- 17 BYTECODE
    ∷ answer_numbers line_numbers (debug.source_line i j)  -- 18 LINE
    ∷ answer_numbers line_numbers (debug.line i)  -- 19 LINE_ENTRY
    ∷ answer_numbers variable_numbers (debug.variable i)  -- 20 VARIABLE
    ∷ answer_numbers function_name_numbers (debug.function_name i)  -- 21 FUNCTION_NAME
    ∷ answer_numbers layout_numbers (debug.string_layout i)  -- 22 STRING_LAYOUT
    ∷ answer_numbers source_numbers (debug.source_file i)  -- 23 SOURCE_FILE
    ∷ answer_numbers enumeration_numbers (debug.enumeration i)  -- 24 ENUMERATION
    ∷ answer_numbers part_numbers (debug.enumeration_value i j)  -- 25 ENUMERATION_VALUE
    ∷ []

-- over a file and a record
abbrev pub lookups : List ℕ → Container → ℕ → ℕ → List (List ℕ)
lookups f c i j = lookups_of (run_answers f c) (debug_answers f c) i j

-- the lookup of a kind; an unknown kind has no numbers
unfoldable pub looked_up : List ℕ → Container → ℕ → ℕ → ℕ → List ℕ
looked_up f c kind i j = get_or (lookups f c i j) kind []

abbrev pub kind_count : ℕ
kind_count = 26

-- the source location of a place in a function's bytecode
abbrev pub line_kind : ℕ
line_kind = 18

-- The code's kinds: their numbers, and the kind of a number

abbrev pub kind_number : Kind → ℕ
kind_number kind.Task = 0
kind_number kind.Program = 1
kind_number kind.FbType = 2
kind_number kind.Field = 3
kind_number kind.Array = 4
kind_number kind.ArraySize = 5
kind_number kind.UserFb = 6
kind_number kind.Constant = 7
kind_number kind.GetI32 = 8
kind_number kind.GetU32 = 9
kind_number kind.GetI64 = 10
kind_number kind.GetU64 = 11
kind_number kind.GetF32 = 12
kind_number kind.GetF64 = 13
kind_number kind.GetStr = 14
kind_number kind.CharWidth = 15
kind_number kind.Function = 16
kind_number kind.Bytecode = 17
kind_number kind.Line = 18
kind_number kind.LineEntry = 19
kind_number kind.Variable = 20
kind_number kind.FunctionName = 21
kind_number kind.StringLayout = 22
kind_number kind.SourceFile = 23
kind_number kind.Enumeration = 24
kind_number kind.EnumerationValue = 25

-- a kind's number, or none
abbrev pub kind_from : Result Kind UnknownKind → Option ℕ
kind_from (Err e) = none
kind_from (Ok k) = some (kind_number k)

-- what `Kind::try_from` answers for a number
abbrev pub KindOf : ℕ → Result Kind UnknownKind → Type 0
KindOf n answer = kind_from answer ≡ cond (ltb n kind_count) (some n) none
