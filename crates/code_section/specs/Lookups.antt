-- What the section's reader, its lookups and its walk answer: over the section's bytes `s`, and over a file and the section's place `p` in it.
-- `n` is the header's function count.
use Rattle.std.specs.Prelude.{ℕ, List}
use Rattle.reading.specs.Answer.{Got, found, ◌>>=◌, item_of}
use Rattle.reading.specs.Places.{Next}
use Rattle.reading.specs.declared.Table.{Table}
use Rattle.format.specs.Parts.{Place, by_place}
use Rattle.format.specs.Code.{Function, function, code_of}
use Rattle.format.specs.Lookups.{read_at, function_of, function_bytes_of}
use Rattle.base.specs.Section.{step_in}

-- the bytes of an entry of the directory
abbrev pub func_entry_size : ℕ
func_entry_size = 16

-- whether the section reads
abbrev pub code_reads : ℕ → List ℕ → Got (Unit {0})
code_reads n s = item_of (code_of n s) >>= λ c. found tt

-- the function at a position (document 01: "by position in the directory, never by the stored id")
abbrev pub function_in : ℕ → List ℕ → ℕ → Got Function
function_in n s k = item_of (code_of n s) >>= function_of k

abbrev pub function_at : List ℕ → Place → ℕ → ℕ → Got Function
function_at f p n k = read_at f p (code_of n) >>= function_of k

-- its bytecode, by its place in the file
abbrev pub bytecode_at : List ℕ → Place → ℕ → ℕ → Got Place
bytecode_at f p n k = read_at f p (code_of n) >>= function_bytes_of (by_place p) k

-- where a walk over the directory starts, and one step of it
abbrev pub directory_at : List ℕ → Place → ℕ → Got Table
directory_at f p n = read_at f p (code_of n) >>= λ c. found (record { at = 0; count = n })

abbrev pub next_function_at : List ℕ → Place → Table → Next Function
next_function_at f p t = step_in f p function t
