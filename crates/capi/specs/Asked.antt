-- What the library answers in numbers: a refusal's number and values, or 0 and the answer's numbers.
use Rattle.std.specs.Prelude.{ℕ, List, []}
use Rattle.std.proofs.Math.Option.{Option, none, some}
use Rattle.reading.specs.Answer.{Got, refused, found, ◌>>=◌}
use Rattle.format.specs.Record.{Container, read_from}
use Rattle.blake3.specs.Blake3.{blake3}
use Rattle.answer_numbers.specs.Fields.{refusal_numbers, answer_numbers}
use Rattle.lookup_kinds.specs.Kinds.{looked_up}
use Rattle.record_numbers.specs.ToNumbers.{record_numbers}
use Rattle.record_numbers.specs.FromNumbers.{record_of_numbers}

-- A lookup over the file f and the record that reading f yields

abbrev pub with_record : Got Container → (Container → List ℕ) → List ℕ
with_record (refused r) look = refusal_numbers r
with_record (found c) look = look c

unfoldable pub asked : List ℕ → ℕ → ℕ → ℕ → List ℕ
asked f kind i j = with_record (read_from blake3 f) (λ c. looked_up f c kind i j)

-- A lookup over the file f and the numbers ns that stand for a record, of f or not; no numbers if they stand for none

abbrev pub with_numbers : Option Container → (Container → List ℕ) → List ℕ
with_numbers none look = []
with_numbers (some c) look = look c

unfoldable pub looked_up_in : List ℕ → List ℕ → ℕ → ℕ → ℕ → List ℕ
looked_up_in f ns kind i j = with_numbers (record_of_numbers ns) (λ c. looked_up f c kind i j)

-- What reading f yields
unfoldable pub loaded : List ℕ → List ℕ
loaded f = answer_numbers record_numbers (read_from blake3 f)

-- The content hash in the header of a file that reads
unfoldable pub content_hash_asked : List ℕ → Got (List ℕ)
content_hash_asked f = read_from blake3 f >>= λ c. found c.header.content_hash
