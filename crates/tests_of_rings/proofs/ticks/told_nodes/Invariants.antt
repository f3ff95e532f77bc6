use Rattle.std.proofs.Common.{◌≡◌, vec_len}
use Rattle.tests_of_rings.proofs.ticks.told_nodes.Given as goal

abbrev pub invariant-loop-number : goal.invariant-loop-number
invariant-loop-number g l = vec_len l.nodes ≡ l.number
