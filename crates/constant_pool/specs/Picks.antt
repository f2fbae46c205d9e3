-- What a getter picks from the answer of a lookup, whichever way the constant was found: the lookup's refusal; else the constant's number, string or
-- character width; 9 with the constant's type if that is another than asked (document 01: "other type than asked; checked after 11").
use Rattle.std.specs.Prelude.{ℕ, ℤ}
use Rattle.reading.specs.Answer.{Got, found, ◌>>=◌}
use Rattle.format.specs.Parts.{Place}
use Rattle.format.specs.Constants.{Constant, as_number, signed, as_string, char_width}

-- the number in the first `width` kept bytes of a constant of type `kind`
abbrev pub number_picked : ℕ → ℕ → Got (Constant Place) → Got ℕ
number_picked kind width x = x >>= as_number kind width

-- what `sense` makes of it
abbrev pub value_picked : {V : Type 0} → (ℕ → V) → ℕ → ℕ → Got (Constant Place) → Got V
value_picked sense kind width x = number_picked kind width x >>= λ n. found (sense n)

-- types 0 to 5: I32, U32, I64, U64, F32 and F64, in four or eight bytes; "floats come as bits"
abbrev pub i32_of : Got (Constant Place) → Got ℤ
i32_of x = number_picked 0 4 x >>= λ n. found (signed 2147483648 n)

abbrev pub u32_of : Got (Constant Place) → Got ℕ
u32_of x = number_picked 1 4 x

abbrev pub i64_of : Got (Constant Place) → Got ℤ
i64_of x = number_picked 2 8 x >>= λ n. found (signed 9223372036854775808 n)

abbrev pub u64_of : Got (Constant Place) → Got ℕ
u64_of x = number_picked 3 8 x

abbrev pub f32_of : Got (Constant Place) → Got ℕ
f32_of x = number_picked 4 4 x

abbrev pub f64_of : Got (Constant Place) → Got ℕ
f64_of x = number_picked 5 8 x

-- a string, Str or WStr, by its place in the file
abbrev pub string_place_of : Got (Constant Place) → Got Place
string_place_of x = x >>= as_string

-- bytes per character of a string
abbrev pub width_of : Got (Constant Place) → Got ℕ
width_of x = x >>= char_width
