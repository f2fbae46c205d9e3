-- Demand 3, first half: what the machine runs depends neither on the debug side nor on the file's other bytes.
use Rattle.std.specs.Prelude.{ℕ, ◌≤◌, ◌<◌, ◌≡◌, List, length, get_or}
use Rattle.std.proofs.Math.Option.{Option}
use Rattle.reading.specs.Numbers.{le_at}
use Rattle.reading.specs.Answer.{found, ◌>>=◌}
use Rattle.format.specs.Parts.{limit, header_size, part, Place, cut, Inside}
use Rattle.format.specs.Header.{Runtime, Header, directory_of, without_debug_bit}
use Rattle.format.specs.Tasks.{TaskTable}
use Rattle.format.specs.Types.{TypeTables}
use Rattle.format.specs.Constants.{Constant}
use Rattle.format.specs.Code.{Code}
use Rattle.format.specs.Load.{Loaded, load}
use Rattle.format.specs.Record.{TaskCounts, TypeCounts, Container, record_of, read_from}
use Rattle.format.specs.Lookups.{RunAnswers, run_answers, run_by_bytes}

-- The premises

-- the headers agree outside the debug bit, the debug hash (bytes 72 to 103) and the section directory (bytes 136 to 191)
pub record HeadersAgree (f g : List ℕ) : Type 0 where
  pub before-flags : part 0 7 f ≡ part 0 7 g
  pub flags : without_debug_bit (le_at 1 f 7) ≡ without_debug_bit (le_at 1 g 7)
  pub from-8-to-71 : part 8 64 f ≡ part 8 64 g
  pub from-104-to-135 : part 104 32 f ≡ part 104 32 g
  pub from-192-to-255 : part 192 64 f ≡ part 192 64 g

-- a section has equal size and bytes in both files, and lies inside both behind the header, also at size 0
pub record SameSection (f : List ℕ) (p : Place) (g : List ℕ) (q : Place) : Type 0 where
  pub in-first : Inside f p
  pub in-second : Inside g q
  pub sizes : p.size ≡ q.size
  pub bytes : cut f p ≡ cut g q

-- only empty types may lie anywhere
pub data SameTypes (f : List ℕ) (p : Place) (g : List ℕ) (q : Place) : Type 0 where
  placed : SameSection f p g q → SameTypes f p g q
  empty : p.size ≡ 0 → q.size ≡ 0 → SameTypes f p g q

-- the places are those that the two headers hold, whether or not the files load
pub record SameRunSide (f g : List ℕ) : Type 0 where
  pub first-limit : length f ≤ limit
  pub second-limit : length g ≤ limit
  pub headers : HeadersAgree f g
  pub tasks : SameSection f (directory_of f).tasks g (directory_of g).tasks
  pub types : SameTypes f (directory_of f).types g (directory_of g).types
  pub constants : SameSection f (directory_of f).constants g (directory_of g).constants
  pub code : SameSection f (directory_of f).code g (directory_of g).code

-- Agreement byte by byte: all of the header's bytes are compared except the debug hash, the directory, and byte 7, which is compared without the debug bit

pub data Compared : ℕ → Type 0 where
  identification : {i : ℕ} → i < 7 → Compared i
  content-and-reserved : {i : ℕ} → 8 ≤ i → i < 72 → Compared i
  layout : {i : ℕ} → 104 ≤ i → i < 136 → Compared i
  runtime : {i : ℕ} → 192 ≤ i → i < 256 → Compared i

pub record BytesAgree (f g : List ℕ) : Type 0 where
  pub bytes : (i : ℕ) → Compared i → get_or f i 0 ≡ get_or g i 0
  pub flags : without_debug_bit (le_at 1 f 7) ≡ without_debug_bit (le_at 1 g 7)

-- the premises imply that both files have a whole header; and for files that have one, agreeing byte by byte is enough
pub record Premises : Type 0 where
  pub whole-headers : (f g : List ℕ) → SameRunSide f g → (header_size ≤ length f) × (header_size ≤ length g)
  pub byte-by-byte : (f g : List ℕ) → header_size ≤ length f → header_size ≤ length g → BytesAgree f g → HeadersAgree f g

-- Document 01's "What the machine runs": the loaded header outside the exempted fields, the tables of tasks, types, constants and code,
-- and for every question each answer of the lookups in them, the file with its own record, parts by their bytes

pub record RunHeader : Type 0 where
  pub magic : ℕ
  pub version : ℕ
  pub profile : ℕ
  pub flags : ℕ
  pub content_hash : List ℕ
  pub reserved_hash : List ℕ
  pub layout_hash : List ℕ
  pub runtime : Runtime
  pub reserved : List ℕ

abbrev pub run_header : Header → RunHeader
run_header h =
    record {
      magic = h.magic;
      version = h.version;
      profile = h.profile;
      flags = without_debug_bit h.flags;
      content_hash = h.content_hash;
      reserved_hash = h.reserved_hash;
      layout_hash = h.layout_hash;
      runtime = h.runtime;
      reserved = h.reserved;
    }

pub record Run : Type 0 where
  pub header : RunHeader
  pub tasks : TaskTable
  pub types : Option TypeTables
  pub constants : List (Constant (List ℕ))
  pub code : Code
  pub answers : RunAnswers (List ℕ)

unfoldable pub run_of : List ℕ → Loaded → Run
run_of f l =
    record {
      header = run_header l.header;
      tasks = l.tasks;
      types = l.types;
      constants = l.constants;
      code = l.code;
      answers = run_by_bytes f (run_answers f (record_of l));
    }

-- the same of a record: its numbers, and the answers over it
pub record RunRecord : Type 0 where
  pub header : RunHeader
  pub tasks : TaskCounts
  pub types : Option TypeCounts
  pub constants : ℕ
  pub answers : RunAnswers (List ℕ)

unfoldable pub run_record_of : List ℕ → Container → RunRecord
run_record_of f r =
    record {
      header = run_header r.header;
      tasks = r.tasks;
      types = r.types;
      constants = r.constants;
      answers = run_by_bytes f (run_answers f r);
    }

-- Both load and run the same, or both are refused with the same number and values

abbrev pub RunSideIndependence : (List ℕ → List ℕ) → Type 0
RunSideIndependence hash = (f g : List ℕ) → SameRunSide f g → (load hash f >>= λ a. found (run_of f a)) ≡ (load hash g >>= λ b. found (run_of g b))

-- the same of the records that `read_from` answers
abbrev pub RunSideOfRecords : (List ℕ → List ℕ) → Type 0
RunSideOfRecords hash =
    (f g : List ℕ) → SameRunSide f g → (read_from hash f >>= λ r. found (run_record_of f r)) ≡ (read_from hash g >>= λ s. found (run_record_of g s))
