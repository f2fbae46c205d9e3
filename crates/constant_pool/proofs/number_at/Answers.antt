-- `constant_pool::number_at` meets its contract at every size.
use Rattle.std.proofs.Common.{refl, ◌∙◌, arith}
use Rattle.constant_pool.proofs.Numbers.{part_filled, part_copied}
use Rattle.constant_pool.proofs.number_at.Goals as goal

pub returns-in-8 : goal.returns-in-8
returns-in-8 c = let a = c.args in part_filled a.s.now a.at a.size (omega arith) (omega arith) 8 _ (λ i. omega (arith, c.type_inv.s i)) c.in-8.is c.u64_at.ensures

pub returns-in-4 : goal.returns-in-4
returns-in-4 c = let a = c.args in part_filled a.s.now a.at a.size (omega arith) (omega arith) 4 _ (λ i. omega (arith, c.type_inv.s i)) c.in-4.is c.u32_at.ensures

pub returns-in-2 : goal.returns-in-2
returns-in-2 c = let a = c.args in part_filled a.s.now a.at a.size (omega arith) (omega arith) 2 _ (λ i. omega (arith, c.type_inv.s i)) c.in-2.is c.u16_at.ensures

pub returns-in-1 : goal.returns-in-1
returns-in-1 c = let a = c.args in part_filled a.s.now a.at a.size (omega arith) (omega arith) 1 _ (λ i. omega (arith, c.type_inv.s i)) c.in-1.is c.u8_at.ensures

pub returns-in_default : goal.returns-in_default
returns-in_default c =
    let a = c.args in
    let p = part_copied a.s.now a.at a.size (omega arith) (omega arith) c.copy_from_slice.new.self c.copy_from_slice.ensures.after in
    part_filled a.s.now a.at a.size (omega arith) (omega arith) a.size _ (λ i. omega (arith, c.type_inv.s i)) refl (c.u64_at-in_default.ensures ∙ p)
