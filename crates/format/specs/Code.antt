-- The code section (document 01, "Sections", Code).
use Rattle.std.specs.Prelude.{ℕ, ◌+◌, ◌-◌, cond, List, leb, length}
use Rattle.reading.specs.Reader.{Reader, ◌>>=◌, give, u16, u32, many, all_left}
use Rattle.reading.specs.Answer.{Got, refused, found}
use Rattle.format.specs.Faults.{no_function}
use Rattle.format.specs.Parts.{part, Keep}

pub record Function : Type 0 where
  pub id : ℕ
  pub offset : ℕ
  pub size : ℕ
  pub max_stack_depth : ℕ
  pub locals : ℕ
  pub parameters : ℕ

-- entry 16: id 2, offset 4, length 4, stack 2, locals 2, parameters 2
unfoldable pub function : Reader Function
function = do
  id ← u16
  offset ← u32
  size ← u32
  max_stack_depth ← u16
  locals ← u16
  parameters ← u16
  give (record { id = id; offset = offset; size = size; max_stack_depth = max_stack_depth; locals = locals; parameters = parameters })

pub record Code : Type 0 where
  pub functions : List Function
  pub bytecode : List ℕ

-- the section: one entry for each of the header's `n` functions; all the rest is bytecode
unfoldable pub code_of : ℕ → Reader Code
code_of n = do
  functions ← many n function
  bytecode ← all_left
  give (record { functions = functions; bytecode = bytecode })

-- a function's part of the bytecode, which is the section's last part; 12 if its range is outside
abbrev pub bytecode_of : {T : Type 0} → Keep T → List ℕ → Function → Got T
bytecode_of keep b f =
    let end = f.offset + f.size in
    cond (leb end (length b)) (found (keep (part f.offset f.size b) (length b - end))) (refused no_function)
