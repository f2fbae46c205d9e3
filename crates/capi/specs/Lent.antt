-- What a function leaves in the caller's buffers: `before` becomes `after`, and the function returns r.
use Rattle.std.specs.Prelude.{ℕ, ◌≤◌, Bool, ◌&&◌, cond, List, [], ◌≡◌, leb, length}
use Rattle.reading.specs.Answer.{Got, refused, found}
use Rattle.lent.specs.Output.{put_at_start}
use Rattle.answer_numbers.specs.Fields.{answer_numbers}

-- the numbers that a caller must lend room for, and the bytes of a digest
abbrev pub room : ℕ
room = 64

abbrev pub digest_room : ℕ
digest_room = 32

-- Numbers. With room for 64 the buffer starts with them and r is their count. With less room the buffer is as it was and r is 0
abbrev pub has_room : List ℕ → Bool
has_room out = leb room (length out)

pub record Answered (before ns after : List ℕ) (r : ℕ) : Type 0 where
  pub answer : r ≡ cond (has_room before) (length ns) 0
  pub buffer : after ≡ cond (has_room before) (put_at_start before ns) before

-- A hash. The numbers are 0, or a refusal's number and values; a digest has a buffer of its own, which a refusal leaves as it was
abbrev pub hash_numbers : Got (List ℕ) → List ℕ
hash_numbers g = answer_numbers (λ d. []) g

abbrev pub digest_put : Got (List ℕ) → List ℕ → List ℕ
digest_put (refused f) before = before
digest_put (found d) before = put_at_start before d

-- With room for 32 bytes and for 64 numbers both are written, and r is the count of the numbers. With less room in either both buffers are as they were and r is 0
abbrev pub has_both : List ℕ → List ℕ → Bool
has_both digest out = leb digest_room (length digest) && has_room out

pub record Hashed (g : Got (List ℕ)) (digest digest_after out out_after : List ℕ) (r : ℕ) : Type 0 where
  pub answer : r ≡ cond (has_both digest out) (length (hash_numbers g)) 0
  pub numbers : out_after ≡ cond (has_both digest out) (put_at_start out (hash_numbers g)) out
  pub bytes : digest_after ≡ cond (has_both digest out) (digest_put g digest) digest

-- A text. If it fits, the buffer starts with it, r is its length, and the rest is as it was; else r is 0, and what the buffer then holds is left free
abbrev pub listed_length : List ℕ → List ℕ → ℕ
listed_length before t = cond (leb (length t) (length before)) (length t) 0

pub record Listed (before t after : List ℕ) (r : ℕ) : Type 0 where
  pub answer : r ≡ listed_length before t
  pub text : length t ≤ length before → after ≡ put_at_start before t
