-- A constant as the code returns it, with its bytes.
use Rattle.std.specs.Prelude.{ℕ, List}
use Rattle.format.specs.Constants.{Constant, on_constant}
use Rattle.base.specs.Section.{bytes_of}
use Rattle.constant_pool.specs.Answers.{const_in}
use Rattle.constant_pool.specs.declared.ConstEntry.{ConstEntry}

-- those of a string are its part of the file
abbrev pub with_bytes : List ℕ → ConstEntry → Constant (List ℕ)
with_bytes file c = on_constant (bytes_of file) (const_in c)
