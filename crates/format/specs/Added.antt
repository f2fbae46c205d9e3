-- Document 01's "Section E is D with unknown tables added" ("Sections", Debug).
use Rattle.std.specs.Prelude.{◌≡◌, List, [], ◌∷◌, ◌++◌, ℕ, ◌+◌, ◌*◌, length}
use Rattle.reading.specs.Reader.{got}
use Rattle.format.specs.Parts.{by_bytes}
use Rattle.format.specs.Debug.{Row, tag_of, size_of, kind_of, unknown, rows_of, Payload, payload_of}

-- a row with the bytes of its payload
pub record RowAndPayload : Type 0 where
  pub row : Row
  pub payload : List ℕ

abbrev pub all_rows : List RowAndPayload → List Row
all_rows [] = []
all_rows (p ∷ ps) = p.row ∷ all_rows ps

abbrev pub row_bytes : List RowAndPayload → List ℕ
row_bytes [] = []
row_bytes (p ∷ ps) = p.row ++ row_bytes ps

abbrev pub payload_bytes : List RowAndPayload → List ℕ
payload_bytes [] = []
payload_bytes (p ∷ ps) = p.payload ++ payload_bytes ps

-- reading the payloads of the rows in turn takes the bytes of each, and leaves `rest`
abbrev pub Takes : List RowAndPayload → List ℕ → List ℕ → Type 0
Takes [] s rest = s ≡ rest
Takes (p ∷ ps) s rest = (t : Payload (List ℕ)) × (s' : List ℕ) × (payload_of by_bytes p.row s ≡ got t s') × (s ≡ p.payload ++ s') × Takes ps s' rest

-- how reading takes D apart: its rows, each with the bytes that reading it takes in D, and "the bytes at D's end that reading D leaves"
pub record TakenApart (d : List ℕ) : Type 0 where
  pub parts : List RowAndPayload
  pub behind_rows : List ℕ
  pub rest : List ℕ
  pub rows : rows_of d ≡ got (all_rows parts) behind_rows
  pub takes : Takes parts behind_rows rest

-- what may be added: a row of 8 bytes whose tag document 01 does not list, and as many bytes as its size
pub record Unknown (p : RowAndPayload) : Type 0 where
  pub whole : length p.row ≡ 8
  pub not_listed : kind_of (tag_of p.row) ≡ unknown
  pub sized : length p.payload ≡ size_of p.row

-- the second list is the first in order, with unknown tables put anywhere before, between or behind
pub data WithUnknown : List RowAndPayload → List RowAndPayload → Type 0 where
  end : WithUnknown [] []
  kept : {p : RowAndPayload} {ps qs : List RowAndPayload} → WithUnknown ps qs → WithUnknown (p ∷ ps) (p ∷ qs)
  added : {q : RowAndPayload} {ps qs : List RowAndPayload} → Unknown q → WithUnknown ps qs → WithUnknown ps (q ∷ qs)

-- E holds, in turn, its row count, the rows, the payloads in row order, and the bytes that reading D leaves
pub record Added (d e : List ℕ) : Type 0 where
  pub old : TakenApart d
  pub new : List RowAndPayload
  pub interleaved : WithUnknown old.parts new
  pub low : ℕ
  pub high : ℕ
  pub count : low + 256 * high ≡ length new
  pub holds : e ≡ low ∷ high ∷ row_bytes new ++ payload_bytes new ++ old.rest
