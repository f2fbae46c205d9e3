-- `code_section::entry_at` meets its contract: the six numbers of an entry.
use Rattle.code_section.proofs.Entries.{function-at}
use Rattle.code_section.proofs.entry_at.Goals as goal

pub returns : goal.returns
returns c =
    rw (c.u16_at.ensures, c.u32_at.ensures, c.u32_at-2.ensures, c.u16_at-2.ensures, c.u16_at-3.ensures, c.u16_at-4.ensures)
    (function-at _ _ c.requires)
