-- `header::directory_at` meets its contract: seven pairs.
use Rattle.format.specs.Header.{directory_of}
use Rattle.header.proofs.directory_at.Goals as goal

pub returns : goal.returns
unfolding directory_of
returns c =
    rw (
      c.section_at.ensures,
      c.section_at-2.ensures,
      c.section_at-3.ensures,
      c.section_at-4.ensures,
      c.section_at-5.ensures,
      c.section_at-6.ensures,
      c.section_at-7.ensures,
    )
