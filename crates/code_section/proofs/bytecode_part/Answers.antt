-- `code_section::bytecode_part` meets its contract: behind the directory, where the function's range ends in the section.
use Rattle.std.proofs.Common.{arith}
use Rattle.code_section.proofs.Entries.{located, bytecode-outside, bytecode-inside}
use Rattle.code_section.proofs.bytecode_part.Goals as goal

pub overflow_sub-section : goal.overflow_sub-section
overflow_sub-section c = omega (arith, (located _ _ _ _ _ c.in_ok-f.ensures).room)

pub returns-then-section-directory : goal.returns-then-section-directory
returns-then-section-directory c = (bytecode-outside _ _ _ _ _ (located _ _ _ _ _ c.in_ok-f.ensures) c.if-section-directory.true, tt)

pub returns : goal.returns
returns c =
    let k = located _ _ _ _ _ c.in_ok-f.ensures in
    (bytecode-inside _ _ _ _ _ k c.if-section-directory.false, omega (arith, k.inside.within, k.room))
