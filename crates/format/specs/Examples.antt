-- Files as lists: document 01's mill file M, and others made from it. They show of demand 3 that it is not vacuous, and that its premises on types,
-- on the place of empty code and on the content hash are needed.
use Rattle.std.specs.Prelude.{ℕ, ◌/◌, ◌%◌, ◌≤◌, ◌≡◌, false, List, [], ◌∷◌, ◌++◌, ℤ, pos, length, replicate}
use Rattle.reading.specs.Answer.{Got, refused, found, ◌>>=◌}
use Rattle.format.specs.Faults.{section_size_mismatch, content_hash_mismatch, no_array}
use Rattle.format.specs.Parts.{limit, hash_size, part, cut, Inside, same}
use Rattle.format.specs.Header.{directory_of}
use Rattle.format.specs.Types.{Array}
use Rattle.format.specs.Debug.{Line}
use Rattle.format.specs.Load.{Loaded, load}
use Rattle.format.specs.Record.{read_from}
use Rattle.format.specs.Lookups.{run_answers, debug_answers}
use Rattle.format.specs.RunSide.{HeadersAgree, SameSection, SameTypes, SameRunSide}
use Rattle.format.specs.UnknownTables.{TablesAdded}

-- a pair of the directory
abbrev pub pair : ℕ → ℕ → List ℕ
pair at size = at % 256 ∷ at / 256 ∷ 0 ∷ 0 ∷ size % 256 ∷ size / 256 ∷ 0 ∷ 0 ∷ []

abbrev pub zero_hash : List ℕ
zero_hash = replicate hash_size 0

-- a header with flags, content hash, debug hash, directory (types, tasks, constants, code, debug) and function count; all else zero
abbrev pub header : ℕ → List ℕ → List ℕ → List ℕ → ℕ → List ℕ
header flags content_hash debug_hash directory functions =
    0x43 ∷ 0x4C ∷ 0x50 ∷ 0x49 ∷ 4 ∷ 0 ∷ 0 ∷ flags ∷ content_hash ++ replicate 32 0 ++ debug_hash ++ replicate 32 0
    ++ replicate 16 0 ++ directory ++ replicate 16 0 ++ functions ∷ 0 ∷ replicate 46 0

-- M's sections

abbrev pub tasks : List ℕ
tasks =
    1 ∷ 0 ∷ 1 ∷ 0 ∷ 0 ∷ 0
    ∷ 0 ∷ 0 ∷ 1 ∷ 0 ∷ 0 ∷ 0 ∷ 0x20 ∷ 0x4E ∷ 0 ∷ 0 ∷ 0 ∷ 0 ∷ 0 ∷ 0 ∷ 0xFF ∷ 0xFF ∷ 0x50 ∷ 0xC3 ∷ 0 ∷ 0 ∷ 0 ∷ 0 ∷ 0 ∷ 0 ∷ replicate 8 0
    ++ 0 ∷ 0 ∷ 0 ∷ 0 ∷ 0 ∷ 0 ∷ 0 ∷ 0 ∷ 4 ∷ 0 ∷ replicate 6 0

abbrev pub types : List ℕ
types = 0 ∷ 0 ∷ 1 ∷ 0 ∷ 6 ∷ 0 ∷ 3 ∷ 0 ∷ 0 ∷ 0 ∷ 10 ∷ 0 ∷ 16 ∷ 0 ∷ 0 ∷ 0 ∷ []

abbrev pub constants : List ℕ
constants = 2 ∷ 0 ∷ 0 ∷ 0 ∷ 4 ∷ 0 ∷ 0x0E ∷ 0x01 ∷ 0 ∷ 0 ∷ 6 ∷ 0 ∷ 2 ∷ 0 ∷ 0x6B ∷ 0x67 ∷ []

-- one function, with the stored id `id`
abbrev pub code_with : ℕ → List ℕ
code_with id = id ∷ 0 ∷ 0 ∷ 0 ∷ 0 ∷ 0 ∷ 5 ∷ 0 ∷ 0 ∷ 0 ∷ 8 ∷ 0 ∷ 2 ∷ 0 ∷ 0 ∷ 0 ∷ replicate 5 0

-- the row of the line table, with `size` as its size; the table has 32 bytes, and M's row says 0
abbrev pub line_row : ℕ → List ℕ
line_row size = 1 ∷ 0 ∷ 0 ∷ 0 ∷ size ∷ 0 ∷ 0 ∷ 0 ∷ []

abbrev pub line_table : List ℕ
line_table =
    3 ∷ 0
    ∷ 0 ∷ 0 ∷ 0 ∷ 0 ∷ 0 ∷ 0 ∷ 1 ∷ 0 ∷ 1 ∷ 0
    ∷ 0 ∷ 0 ∷ 3 ∷ 0 ∷ 0 ∷ 0 ∷ 2 ∷ 0 ∷ 5 ∷ 0
    ∷ 0 ∷ 0 ∷ 3 ∷ 0 ∷ 0 ∷ 0 ∷ 2 ∷ 0 ∷ 9 ∷ 0 ∷ []

-- M with other flags, another stored id of its function, or another debug section
abbrev pub mill_with : ℕ → ℕ → List ℕ → List ℕ
mill_with flags id debug =
    header flags zero_hash zero_hash (pair 310 16 ++ pair 256 54 ++ pair 326 16 ++ pair 342 21 ++ pair 363 (length debug)) 1
    ++ tasks ++ types ++ constants ++ code_with id ++ debug

-- M's debug section: tag 1 only
abbrev pub lines : List ℕ
lines = 1 ∷ 0 ∷ line_row 0 ++ line_table

-- M: 405 bytes
abbrev pub mill : List ℕ
mill = mill_with 6 0 lines

-- M without debug, its sections in another order after three other bytes, with some debug hash: 366 bytes
abbrev pub stripped : List ℕ
stripped =
    header 4 zero_hash (replicate 32 7) (pair 296 16 ++ pair 312 54 ++ pair 280 16 ++ pair 259 21 ++ pair 0 0) 1
    ++ 1 ∷ 2 ∷ 3 ∷ code_with 0 ++ constants ++ types ++ tasks

-- M with a table of tag 5, three bytes long, in front of the lines: 416 bytes
abbrev pub unknown_row : List ℕ
unknown_row = 5 ∷ 0 ∷ 0 ∷ 0 ∷ 3 ∷ 0 ∷ 0 ∷ 0 ∷ []

abbrev pub unknown_table : List ℕ
unknown_table = 7 ∷ 8 ∷ 9 ∷ []

abbrev pub lines_more : List ℕ
lines_more = 2 ∷ 0 ∷ unknown_row ++ line_row 0 ++ unknown_table ++ line_table

abbrev pub mill_more : List ℕ
mill_more = mill_with 6 0 lines_more

-- M's lines behind an empty table of lines, whose row says 7 bytes
abbrev pub lines_twice : List ℕ
lines_twice = 2 ∷ 0 ∷ line_row 7 ++ line_row 0 ++ 0 ∷ 0 ∷ line_table

-- unhashed; with its types in the file, or before byte 256, in the reserved bytes 40 to 55, where both files hold the same bytes
abbrev pub types_at : ℕ → List ℕ
types_at at =
    0x43 ∷ 0x4C ∷ 0x50 ∷ 0x49 ∷ 4 ∷ 0 ∷ 0 ∷ 4 ∷ zero_hash ++ types ++ replicate 16 0 ++ zero_hash ++ replicate 32 0
    ++ replicate 16 0 ++ pair at 16 ++ pair 256 54 ++ pair 310 16 ++ pair 326 21 ++ pair 0 0 ++ replicate 16 0 ++ 1 ∷ 0 ∷ replicate 46 0
    ++ tasks ++ constants ++ code_with 0 ++ types

abbrev pub types_inside : List ℕ
types_inside = types_at 347

abbrev pub types_before : List ℕ
types_before = types_at 40

-- a small file that loads: no tasks, types, constants, functions or debug, and its code, of size 0, at `code_at`; 264 bytes
abbrev pub tiny_with : List ℕ → ℕ → List ℕ
tiny_with content_hash code_at =
    header 0 content_hash zero_hash (pair 0 0 ++ pair 256 6 ++ pair 262 2 ++ pair code_at 0 ++ pair 0 0) 0 ++ replicate 8 0

abbrev pub tiny : List ℕ
tiny = tiny_with zero_hash 264

-- the same with its code of size 0 at 0
abbrev pub displaced : List ℕ
displaced = tiny_with zero_hash 0

-- the same with a content hash
abbrev pub hashed : List ℕ
hashed = tiny_with (replicate 32 1) 264

-- Lookups over a file and the record read from it

abbrev pub paste_limit : (List ℕ → List ℕ) → List ℕ → Got ℤ
paste_limit hash f = read_from hash f >>= λ r. (run_answers f r).i32 0

abbrev pub first_array : (List ℕ → List ℕ) → List ℕ → Got Array
first_array hash f = read_from hash f >>= λ r. (run_answers f r).array 0

abbrev pub line_at : (List ℕ → List ℕ) → List ℕ → ℕ → ℕ → Got Line
line_at hash f function offset = read_from hash f >>= λ r. (debug_answers f r).source_line function offset

-- M's last line
abbrev pub last_line : Line
last_line = record { function = 0; offset = 3; file = 0; line = 2; column = 9 }

-- The first half is not vacuous: its premises hold of M and its stripped form, and both load

pub record FirstHalfNotVacuous (hash : List ℕ → List ℕ) : Type 0 where
  pub lengths : (length mill ≡ 405) × (length stripped ≡ 366)
  pub premises : SameRunSide mill stripped
  pub first-answer : paste_limit hash mill ≡ found (pos 270)
  pub second-answer : paste_limit hash stripped ≡ found (pos 270)

-- The premise that types lie in both files is needed: all others hold here, and the array lookup differs

pub record TypesPremiseNeeded (hash : List ℕ → List ℕ) : Type 0 where
  pub limits : (length types_inside ≤ limit) × (length types_before ≤ limit)
  pub headers : HeadersAgree types_inside types_before
  pub tasks : SameSection types_inside (directory_of types_inside).tasks types_before (directory_of types_before).tasks
  pub constants : SameSection types_inside (directory_of types_inside).constants types_before (directory_of types_before).constants
  pub code : SameSection types_inside (directory_of types_inside).code types_before (directory_of types_before).code
  pub types-sizes : (directory_of types_inside).types.size ≡ (directory_of types_before).types.size
  pub types-bytes : cut types_inside (directory_of types_inside).types ≡ cut types_before (directory_of types_before).types
  pub types-in-first : Inside types_inside (directory_of types_inside).types
  pub types-not-in-second : Inside types_before (directory_of types_before).types → ⊥
  pub first-answer : first_array hash types_inside ≡ found (record { kind = 6; elements = 3; extra = 10; stride = 16 })
  pub second-answer : first_array hash types_before ≡ refused no_array

-- The place is needed at size 0 too: a file with its code at 0 is refused with 4

pub record EmptyCodePlaceNeeded (hash : List ℕ → List ℕ) : Type 0 where
  pub limits : (length tiny ≤ limit) × (length displaced ≤ limit)
  pub headers : HeadersAgree tiny displaced
  pub tasks : SameSection tiny (directory_of tiny).tasks displaced (directory_of displaced).tasks
  pub types : SameTypes tiny (directory_of tiny).types displaced (directory_of displaced).types
  pub constants : SameSection tiny (directory_of tiny).constants displaced (directory_of displaced).constants
  pub code-in-first : Inside tiny (directory_of tiny).code
  pub code-empty : ((directory_of tiny).code.size ≡ 0) × ((directory_of displaced).code.size ≡ 0)
  pub first-loads : (l : Loaded) × (load hash tiny ≡ found l)
  pub second-refused : load hash displaced ≡ refused section_size_mismatch

-- The content hash must agree: a file with 32 ones as its content hash is refused with 5, unless the hash function gives these

pub record ContentHashNeeded (hash : List ℕ → List ℕ) : Type 0 where
  pub limits : (length tiny ≤ limit) × (length hashed ≤ limit)
  pub up-to-7 : part 0 8 tiny ≡ part 0 8 hashed
  pub from-40-to-135 : part 40 96 tiny ≡ part 40 96 hashed
  pub from-192-to-255 : part 192 64 tiny ≡ part 192 64 hashed
  pub tasks : SameSection tiny (directory_of tiny).tasks hashed (directory_of hashed).tasks
  pub types : SameTypes tiny (directory_of tiny).types hashed (directory_of hashed).types
  pub constants : SameSection tiny (directory_of tiny).constants hashed (directory_of hashed).constants
  pub code : SameSection tiny (directory_of tiny).code hashed (directory_of hashed).code
  pub first-loads : (l : Loaded) × (load hash tiny ≡ found l)
  pub second-refused : ((s : List ℕ) → same (hash s) (replicate 32 1) ≡ false) → load hash hashed ≡ refused content_hash_mismatch

-- The second half is not vacuous: it speaks of M, and of M with an unknown table added

pub record SecondHalfNotVacuous (hash : List ℕ → List ℕ) : Type 0 where
  pub first : Loaded
  pub second : Loaded
  pub first-loads : load hash mill ≡ found first
  pub second-loads : load hash mill_more ≡ found second
  pub premises : TablesAdded hash mill first.header mill_more second.header
  pub first-answer : line_at hash mill 0 3 ≡ found last_line
  pub second-answer : line_at hash mill_more 0 3 ≡ found last_line
