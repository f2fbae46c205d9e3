-- Numbers, digests and texts at the start of a buffer.
use Prim.Native.Nat.{ℕ, ◌+◌, ◌<◌, ◌≤◌}
use mathlib.Core.Path.{◌≡◌}
use mathlib.Core.Bool.{true, false}
use mathlib.Core.List.{List}
use native.Mathlib.Omega.{arith}
use borrow.Author.Tests.{le-leb, lt-leb}
use lib.ListN.{length}
use Rattle.std.specs.Prelude.{Option as Maybe, Some, None, unwrap_or}
use Rattle.reading.specs.Answer.{Got}
use Rattle.lent.specs.Output.{put_at_start, Wrote, PutsRestFree}
use Rattle.lent.proofs.Fitting.{free-full, free-at}
use Rattle.lent.proofs.Laws.{laws}
use Rattle.capi.specs.Lent.{room, digest_room, has_room, Answered, hash_numbers, digest_put, has_both, Hashed, Listed}

-- numbers in a buffer: no room for them, or all of them at its start
pub answered-none : (l ns : List ℕ) → length l < room → Answered l ns l 0
answered-none l ns h = let no : has_room l ≡ false = lt-leb room (length l) h in record { answer = rw no; buffer = rw no }

pub put_all : {before t after : List ℕ} {r : ℕ} → Wrote before 0 t after r → (r ≡ length t) × (after ≡ put_at_start before t)
put_all w = laws.at-start w

pub answered : {before ns after : List ℕ} {r : ℕ} → room ≤ length before → Wrote before 0 ns after r → Answered before ns after r
answered {before} {ns} {after} {r} h w = let yes : has_room before ≡ true = le-leb room (length before) h in record { answer = rw yes (put_all w).0; buffer = rw yes (put_all w).1 }

pub answered-as : {before ns ms after : List ℕ} {r : ℕ} → ns ≡ ms → Answered before ns after r → Answered before ms after r
answered-as e s = rw (← e) s

-- no room for a hash; the numbers and bytes of one
module _ (g : Got (List ℕ)) (digest out : List ℕ) where
  module _ (h : digest_room ≤ length digest) (k : room ≤ length out) where
    pub hashed : {digest_after out_after : List ℕ} {r : ℕ} → digest_after ≡ digest_put g digest → Answered out (hash_numbers g) out_after r → Hashed g digest digest_after out out_after r
    hashed e s =
        let yes : has_room out ≡ true = le-leb room (length out) k in
        let both : has_both digest out ≡ true = rw (le-leb digest_room (length digest) h, yes) in
        record { answer = rw both (rw yes at s.answer); numbers = rw both (rw yes at s.buffer); bytes = rw both e }

pub hashed-as : {g k : Got (List ℕ)} {digest digest_after out out_after : List ℕ} {r : ℕ} → g ≡ k → Hashed g digest digest_after out out_after r → Hashed k digest digest_after out out_after r
hashed-as e t = rw (← e) t

-- a text that does not fit, and one that is put
listed-none : {before t after : List ℕ} → length before < 0 + length t → Listed before t after 0
listed-none {before} {t} h = record { answer = rw (lt-leb (length t) (length before) (omega arith)); text = λ fits. absurd (omega arith) }

listed-put : {before t after : List ℕ} {r : ℕ} → Wrote before 0 t after r → Listed before t after r
listed-put {before} {t} w =
    let h = w.fits in
    let n = w.next in
    record { answer = rw (le-leb (length t) (length before) (omega arith)) (omega arith); text = λ fits. (put_all w).1 }

pub listed : {before t after : List ℕ} (r : Maybe ℕ) → PutsRestFree before 0 t after r → Listed before t after (unwrap_or r 0)
listed None p = listed-none (free-full p)
listed (Some n) p = listed-put (free-at p)
