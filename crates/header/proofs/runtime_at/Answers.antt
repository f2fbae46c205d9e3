-- `header::runtime_at` meets its contract: eleven numbers.
use Rattle.format.specs.Header.{runtime_of}
use Rattle.header.proofs.runtime_at.Goals as goal

pub returns : goal.returns
unfolding runtime_of
returns c =
    rw (
      c.u16_at.ensures,
      c.u16_at-2.ensures,
      c.u16_at-3.ensures,
      c.u32_at.ensures,
      c.u16_at-4.ensures,
      c.u32_at-2.ensures,
      c.u16_at-5.ensures,
      c.u16_at-6.ensures,
      c.u16_at-7.ensures,
      c.u16_at-8.ensures,
      c.u16_at-9.ensures,
    )
