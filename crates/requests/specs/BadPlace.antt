-- Slip 1: which byte of a name is bad. "The UTF-8 check shall give the length of the longest start of the text that consists of whole good
-- sequences. The text is good exactly if that length is its own": `valid_up_to` and `utf8` of the crate utf8, with their laws. Here: "Every name
-- and path reader passes it up as a place within the debug section."
use Rattle.std.specs.Prelude.{ℕ, ◌+◌, ◌-◌, ◌≤◌, ◌<◌, true, false, ◌&&◌, cond, ◌≡◌, List, [], ◌∷◌, ◌++◌, leb, length, take, replicate}
use Rattle.std.proofs.Math.Option.{Option, none, some}
use Rattle.utf8.specs.Utf8.{valid_up_to, utf8}
use Rattle.reading.specs.Fault.{Fault, refusal, bad_text, short_input}
use Rattle.reading.specs.Numbers.{le_at}
use Rattle.reading.specs.Reader.{Read, fault, got}
use Rattle.reading.specs.Answer.{found, ◌>>=◌}
use Rattle.format.specs.Parts.{limit, part, Place, cut, is_inside, by_bytes}
use Rattle.format.specs.Header.{Header}
use Rattle.format.specs.Debug.{Tables, debug_tables}
use Rattle.format.specs.Load.{Loaded, load, debug_state, unreadable}
use Rattle.format.specs.Record.{Container, read_from}
use Rattle.format.specs.Examples.{mill_with}

-- The place that a fault tells, counted from the start of a section of `whole` bytes: that of the first bad byte. A reader knows only how many
-- bytes are left, so that is what the fault has. A section that ends before an announced item has no bad place
abbrev pub place_of : ℕ → Fault → Option ℕ
place_of whole (refusal n vs) = none
place_of whole (bad_text left) = some (whole - left)

-- and of what reading a section gave: none where it reads
abbrev pub place_read : {A : Type 0} → ℕ → Read A → Option ℕ
place_read whole (fault f) = place_of whole f
place_read whole (got a rest) = none

-- the bad place of a debug section
unfoldable pub bad_place : List ℕ → Option ℕ
bad_place s = place_read (length s) (debug_tables by_bytes s)

-- of a file's section: none where the file is over the limit or the section does not lie in it behind the header
unfoldable pub bad_place_at : List ℕ → Place → Option ℕ
bad_place_at f p = cond (leb (length f) limit && is_inside f p) (bad_place (cut f p)) none

-- of a file and a record: by the record's directory alone, whether or not the record has debug
abbrev pub bad_place_of : List ℕ → Container → Option ℕ
bad_place_of f r = bad_place_at f r.header.directory.debug

-- What the place is

-- the size of the text at `at` stands in front of it: a name's in one byte, a path's in two
pub data Announced (s : List ℕ) : ℕ → ℕ → Type 0 where
  name : (n : ℕ) → Announced s (n + 1) (le_at 1 s n)
  path : (n : ℕ) → Announced s (n + 2) (le_at 2 s n)

-- the text of `size` bytes at `at` lies whole in the section and is not UTF-8; `p` is the place behind its longest good start
pub record BadAt (s : List ℕ) (at size p : ℕ) : Type 0 where
  pub lies_whole : at + size ≤ length s
  pub not-utf8 : utf8 (part at size s) ≡ false
  pub place : p ≡ at + valid_up_to (part at size s)
  pub within : p < at + size

-- a name or a path of the section that is such a text
pub record BadText (s : List ℕ) (p : ℕ) : Type 0 where
  pub at : ℕ
  pub size : ℕ
  pub announced : Announced s at size
  pub bad : BadAt s at size p

-- which is the section's first fault in file order
pub record FirstFault (s : List ℕ) (p : ℕ) : Type 0 where
  pub text : BadText s p
  -- there is none in front of the text's end: a section that ends earlier just ends too early
  pub first : (k : ℕ) → k < text.at + text.size → debug_tables by_bytes (take k s) ≡ fault short_input
  -- the place does not depend on what follows the text
  pub whatever-follows : (t : List ℕ) → bad_place (take (text.at + text.size) s ++ t) ≡ some p

pub record BadPlaces (s : List ℕ) : Type 0 where
  pub has-place : (p : ℕ) → bad_place s ≡ some p → FirstFault s p
  -- a section that reads has none; one that neither reads nor has one ends before an announced item
  pub reads : (t : Tables (List ℕ)) (rest : List ℕ) → debug_tables by_bytes s ≡ got t rest → bad_place s ≡ none
  pub else-short : (f : Fault) → debug_tables by_bytes s ≡ fault f → bad_place s ≡ none → f ≡ short_input

-- The bad place in a file
pub record BadPlacesInFiles : Type 0 where
  pub over-limit : (f : List ℕ) (p : Place) → limit < length f → bad_place_at f p ≡ none
  pub outside : (f : List ℕ) (p : Place) → is_inside f p ≡ false → bad_place_at f p ≡ none
  pub section : (f : List ℕ) (p : Place) → length f ≤ limit → is_inside f p ≡ true → bad_place_at f p ≡ bad_place (cut f p)
  -- by the record's directory alone
  pub of-record : (f : List ℕ) (r : Container) → bad_place_of f r ≡ bad_place_at f r.header.directory.debug

-- "Loading as such is unchanged: debug is still none": `load` is document 01's, in the crate format
pub record StillNone (hash : List ℕ → List ℕ) : Type 0 where
  pub debug-none : (f : List ℕ) (l : Loaded) (p : ℕ) → load hash f ≡ found l → bad_place_at f l.header.directory.debug ≡ some p → l.debug ≡ none
  -- of a section that size, place and hash admit and that does not read, the place is that of its fault
  pub state-place : (f : List ℕ) (h : Header) (e : Fault) → length f ≤ limit → debug_state hash f h ≡ unreadable e
      → bad_place_at f h.directory.debug ≡ place_of h.directory.debug.size e

-- Examples

-- sections of one or two tables, which have the row count, the rows with their tags, then the payloads

abbrev pub row_of : ℕ → List ℕ
row_of tag = tag ∷ 0 ∷ 0 ∷ 0 ∷ 0 ∷ 0 ∷ 0 ∷ 0 ∷ []

abbrev pub one_table : ℕ → List ℕ → List ℕ
one_table tag payload = 1 ∷ 0 ∷ row_of tag ++ payload

abbrev pub two_tables : ℕ → ℕ → List ℕ → List ℕ
two_tables tag other payloads = 2 ∷ 0 ∷ row_of tag ++ row_of other ++ payloads

-- a payload of one function's name: the count, the id 0, the name's size and its bytes
abbrev pub one_name : ℕ → List ℕ → List ℕ
one_name size bytes = 1 ∷ 0 ∷ 0 ∷ 0 ∷ size ∷ bytes

pub record BadPlaceExamples : Type 0 where
  -- 41 E9, "Aé" in Latin-1: behind 2 of the row count, 8 of the row, 2 of the count, 2 of the id, 1 of the size and the 41
  pub latin-1 : bad_place (one_table 3 (one_name 2 (0x41 ∷ 0xE9 ∷ []))) ≡ some 16
  -- E9 80, a sequence that the name's end cuts: where it starts, though a third byte follows in the section
  pub cut-sequence : bad_place (one_table 3 (one_name 3 (0x41 ∷ 0xE9 ∷ 0x80 ∷ 0x80 ∷ []))) ≡ some 16
  -- a name that the section's end cuts has no place, whatever its bytes are
  pub cut-name : bad_place (one_table 3 (one_name 3 (0x41 ∷ 0xE9 ∷ []))) ≡ none
  -- a name of no bytes is good
  pub empty_name : bad_place (one_table 3 (one_name 0 [])) ≡ none
  -- a path of 300 bytes, bad from its 299th on
  pub long_path : bad_place (one_table 6 (1 ∷ 0 ∷ 44 ∷ 1 ∷ replicate 298 0x41 ++ (0xE9 ∷ 0x41 ∷ []))) ≡ some 312
  -- the second value of an enumeration
  pub value-name : bad_place (one_table 9 (1 ∷ 0 ∷ 1 ∷ 0x45 ∷ 2 ∷ 0 ∷ 1 ∷ 0x41 ∷ 1 ∷ 0xFF ∷ [])) ≡ some 19
  -- a variable's type name, behind its name
  pub type-name : bad_place (one_table 2 (1 ∷ 0 ∷ 0 ∷ 0 ∷ 0 ∷ 0 ∷ 0 ∷ 0 ∷ 1 ∷ 0x76 ∷ 1 ∷ 0xFF ∷ [])) ≡ some 21
  -- a table that a later one replaces is read all the same; of two bad names the first counts
  pub replaced : bad_place (two_tables 3 3 (one_name 1 (0xE9 ∷ []) ++ 0 ∷ 0 ∷ [])) ≡ some 23
  pub first-of-two : bad_place (two_tables 3 3 (one_name 1 (0xE9 ∷ []) ++ one_name 1 (0x80 ∷ []))) ≡ some 23
  -- a table that is missing behind a bad name does not hide it; rows that are missing come before any name
  pub missing-table : bad_place (two_tables 3 3 (one_name 1 (0xE9 ∷ []))) ≡ some 23
  pub missing-row : bad_place (2 ∷ 0 ∷ row_of 3) ≡ none
  -- the bytes of a table with another tag are not looked at
  pub other_tag : bad_place (1 ∷ 0 ∷ 7 ∷ 0 ∷ 0 ∷ 0 ∷ 2 ∷ 0 ∷ 0 ∷ 0 ∷ 1 ∷ 0xE9 ∷ []) ≡ none

-- M with the Latin-1 name for its function in place of its lines: it loads without debug, and over it and its record the place is told
abbrev pub mill_latin1 : List ℕ
mill_latin1 = mill_with 6 0 (one_table 3 (one_name 2 (0x41 ∷ 0xE9 ∷ [])))

pub record LoadedExample (hash : List ℕ → List ℕ) : Type 0 where
  pub no-debug : (read_from hash mill_latin1 >>= λ r. found r.debug) ≡ found none
  pub place : (read_from hash mill_latin1 >>= λ r. found (bad_place_of mill_latin1 r)) ≡ found (some 16)
