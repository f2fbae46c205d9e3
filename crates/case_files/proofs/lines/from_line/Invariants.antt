-- `case_files::lines::from_line` is safe and ends: fewer bytes are left behind each line.
use Rattle.std.proofs.Common.{length}
use Rattle.case_files.proofs.lines.from_line.Given as goal

abbrev pub decreases-loop-line : goal.decreases-loop-line
decreases-loop-line l = length l.rest
