use Rattle.std.proofs.Common.{length}
use Rattle.tests_of_rings.proofs.endings.taken_out.Given as goal

abbrev pub decreases-loop-output : goal.decreases-loop-output
decreases-loop-output l = length l.out
