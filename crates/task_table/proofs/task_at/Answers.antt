-- `task_table::task_at` meets its contract: one number for each field.
use native.Mathlib.Omega.{arith}
use Rattle.reading.proofs.Le.{Bytes}
use Rattle.task_table.proofs.Entries.{fields_at, task-whole, reserved-at}
use Rattle.task_table.proofs.task_at.Goals as goal

pub returns : goal.returns
unfolding fields_at
returns c =
    let a = c.args in
    let s = a.s.now in
    let h = c.requires in
    let b : Bytes s = λ i. omega (arith, c.type_inv.s i) in
    rw (
      c.u16_at.ensures,
      c.u16_at-2.ensures,
      c.u8_at.ensures,
      c.u64_at.ensures,
      c.u16_at-3.ensures,
      c.u64_at-2.ensures,
      c.u16_at-4.ensures,
      c.u16_at-5.ensures,
      c.u32_at.ensures,
      reserved-at s a.at h.0 b,
      h.1,
    )
    (task-whole s a.at h.0 a.task_type h.1)
