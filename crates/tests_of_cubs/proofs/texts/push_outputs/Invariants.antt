use Rattle.std.proofs.Common.{length}
use Rattle.tests_of_cubs.proofs.texts.push_outputs.Given as goal

abbrev pub decreases-loop-output : goal.decreases-loop-output
decreases-loop-output l = length l.out
