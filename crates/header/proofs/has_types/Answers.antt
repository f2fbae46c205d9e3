-- `header::has_types` meets its contract: the bit is 4 or 0.
use Rattle.std.proofs.Common.{◌≡◌, ℕ, ◌*◌, ◌<◌, ◌/◌, ◌%◌, arith, refl}
use Prim.Native.Nat.{zero, suc}
use Rattle.std.specs.Prelude.{not, nat_eq, eqb}
use Rattle.std.proofs.lemmas.Nat.Bits.{and_pow, bit_at-lt}
use Rattle.header.proofs.has_types.Goals as goal

is_set : (b : ℕ) → b < 2 → not (nat_eq (b * 4) 0) ≡ eqb b 1
is_set zero l = refl
is_set (suc zero) l = refl
is_set (suc (suc b)) l = absurd (omega arith)

pub returns : goal.returns
returns c = let f = c.args.flags in rw (and_pow f 2) (is_set (f / 4 % 2) (bit_at-lt f 2))
