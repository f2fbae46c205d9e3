-- The claims of `specs/Laws.antt`.
use Prim.Native.Nat.{ℕ, ◌+◌, ◌-◌, ◌<◌, ◌≤◌, ◌^◌}
use mathlib.Core.Path.{◌≡◌, refl, sym, ap, ◌∙◌}
use mathlib.Core.List.{List, ◌++◌, append_assoc}
use native.Mathlib.Nat.{zero-add}
use native.Mathlib.Omega.{arith}
use lib.ListN.{length, take, drop, take-append-drop}
use lib.Seq.{take_at, drop_at, drop-drop, length-take-le}
use Rattle.reading.specs.Numbers.{le, le_at, bytes_le}
use Rattle.reading.proofs.Le.{le-all, bytes-length}
use Rattle.reading.proofs.Parts.{part-of-front}
use Rattle.lent.specs.Output.{Wrote}
use Rattle.lent.specs.Laws.{Written, Laws}
use Rattle.lent.proofs.Writing.{wrote_none, wrote-front, wrote-rest, wrote-length, wrote-before, wrote_then}
use Rattle.lent.proofs.Fitting.{answer_at, buffer-put, answer-none, buffer-left, puts-free}

module _ {a t b : List ℕ} {at r : ℕ} (w : Wrote a at t b r) where
  there : take (length t) (drop at b) ≡ t
  there =
      let rest = drop (at + length t) a in
      let h = w.fits in
      ap (λ (l : List ℕ). take (length t) (drop at l)) (w.buffer ∙ append_assoc (take at a) t rest)
      ∙ ap (take (length t)) (drop_at (take at a) (t ++ rest) at (length-take-le at a (omega arith)))
      ∙ take_at t rest (length t) refl

  written : Written a at t b r
  written = record { same_length = wrote-length w; in-front = wrote-before w; there = there; behind = wrote-rest w; up_to = wrote-front w }

only : (a t b : List ℕ) (at : ℕ) → at + length t ≤ length a → Written a at t b (at + length t) → Wrote a at t b (at + length t)
only a t b at h w = record { fits = h; next = refl; buffer = sym (take-append-drop (at + length t) b) ∙ rw (w.up_to, w.behind) }

-- a text that stands in front of the place where another is written, and one that stands behind it
stays-in-front : {a b c s t : List ℕ} {at p m q : ℕ} → Wrote a at s b p → Wrote b m t c q → p ≤ m → take (length s) (drop at c) ≡ s
stays-in-front {a} {b} {c} {s} {t} {at} {p} {m} w v h =
    let n = w.next in
    sym (part-of-front c m at (length s) (omega arith))
    ∙ ap (λ (l : List ℕ). take (length s) (drop at l)) (wrote-before v)
    ∙ part-of-front b m at (length s) (omega arith)
    ∙ there w

drop-same : (b c : List ℕ) (q at : ℕ) → q ≤ at → drop q c ≡ drop q b → drop at c ≡ drop at b
drop-same b c q at h k =
    let e : q + (at - q) ≡ at = omega arith in
    ap (λ (n : ℕ). drop n c) (sym e) ∙ sym (drop-drop (at - q) q c) ∙ ap (drop (at - q)) k ∙ drop-drop (at - q) q b ∙ ap (λ (n : ℕ). drop n b) e

stays-behind : {a b c s t : List ℕ} {at p m q : ℕ} → Wrote a at s b p → Wrote b m t c q → q ≤ at → take (length s) (drop at c) ≡ s
stays-behind {a} {b} {c} {s} {t} {at} {p} {m} {q} w v h = ap (take (length s)) (drop-same b c q at h (wrote-rest v)) ∙ there w

number-back : (w n : ℕ) {a b : List ℕ} {at r : ℕ} → n < 256 ^ w → Wrote a at (bytes_le w n) b r → le_at w b at ≡ n
number-back w n {a} {b} {at} h v = ap (λ (k : ℕ). le (take k (drop at b))) (sym (bytes-length w n)) ∙ ap le (there v) ∙ le-all w n h

pub laws : Laws
laws =
    record {
      written = written;
      only = only;
      nothing = λ {a} {b} {at} w. w.buffer ∙ sym (wrote_none a at (let h = w.fits in omega arith)).buffer;
      chained = wrote_then;
      stays-in-front = stays-in-front;
      stays-behind = stays-behind;
      at-start = λ {a} {t} w. (w.next ∙ zero-add (length t), w.buffer ∙ ap (λ (n : ℕ). t ++ drop n a) (zero-add (length t)));
      number-back = number-back;
      puts-fits = λ {a} {t} {b} {at} p h.
          (p.answer ∙ answer_at a at t h, record { fits = h; next = refl; buffer = p.buffer ∙ buffer-put a at t h });
      puts-lacks = λ {a} {t} {b} {at} p h. (p.answer ∙ answer-none a at t h, p.buffer ∙ buffer-left a at t h);
      puts-rest-free = puts-free;
    }
