-- `task_table::program_at` meets its contract: one number for each field.
use Rattle.task_table.proofs.Entries.{program-whole}
use Rattle.task_table.proofs.program_at.Goals as goal

pub returns : goal.returns
returns c =
    let a = c.args in
    rw (
      c.u16_at.ensures,
      c.u16_at-2.ensures,
      c.u16_at-3.ensures,
      c.u16_at-4.ensures,
      c.u16_at-5.ensures,
      c.u16_at-6.ensures,
      c.u16_at-7.ensures,
      c.u16_at-8.ensures,
    )
    (program-whole a.s.now a.at c.requires)
