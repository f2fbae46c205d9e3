-- What is answered for a file that is refused, for one that is read, and for numbers that stand for a record.
use Rattle.std.proofs.Common.{◌≡◌, ℕ, List, [], ◌∷◌}
use Rattle.std.proofs.Math.Option.{none, some}
use Rattle.reading.specs.Fault.{Fault}
use Rattle.reading.specs.Answer.{refused, found}
use Rattle.format.specs.Record.{Container, read_from}
use Rattle.blake3.specs.Blake3.{blake3}
use Rattle.answer_numbers.specs.Fields.{refusal_numbers}
use Rattle.lookup_kinds.specs.Kinds.{looked_up}
use Rattle.record_numbers.specs.ToNumbers.{record_numbers}
use Rattle.record_numbers.specs.FromNumbers.{record_of_numbers}
use Rattle.capi.specs.Asked.{looked_up_in, asked, loaded, content_hash_asked}

-- a file that is refused
module _ (f : List ℕ) (e : Fault) (read : refused e ≡ read_from blake3 f) where
  pub ask-refused : (kind i j : ℕ) → refusal_numbers e ≡ asked f kind i j
  unfolding asked
  ask-refused kind i j = rw (← read)

  pub load-refused : refusal_numbers e ≡ loaded f
  unfolding loaded
  load-refused = rw (← read)

  pub hash-refused : refused e ≡ content_hash_asked f
  unfolding content_hash_asked
  hash-refused = rw (← read)

-- and one that is read
module _ (f : List ℕ) (c : Container) (read : found c ≡ read_from blake3 f) where
  pub ask-found : (kind i j : ℕ) → looked_up f c kind i j ≡ asked f kind i j
  unfolding asked
  ask-found kind i j = rw (← read)

  pub load_found : 0 ∷ record_numbers c ≡ loaded f
  unfolding loaded
  load_found = rw (← read)

  pub hash-found : found c.header.content_hash ≡ content_hash_asked f
  unfolding content_hash_asked
  hash-found = rw (← read)

-- numbers that stand for no record, and those of one
module _ (f ns : List ℕ) where
  pub lookup-in-numbers-none : none ≡ record_of_numbers ns → (kind i j : ℕ) → [] ≡ looked_up_in f ns kind i j
  unfolding looked_up_in
  lookup-in-numbers-none taken kind i j = rw (← taken)

  pub lookup-in-numbers-some : (c : Container) → some c ≡ record_of_numbers ns → (kind i j : ℕ) → looked_up f c kind i j ≡ looked_up_in f ns kind i j
  unfolding looked_up_in
  lookup-in-numbers-some c taken kind i j = rw (← taken)
