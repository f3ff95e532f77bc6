use Rattle.std.proofs.Common.{◌≡◌}
use Rattle.node_kit.specs.Rows.{each_below}
use Rattle.ring_engine.specs.Places.{numbered}
use Rattle.ring_engine.proofs.opening.all_numbers.Given as goal

abbrev pub invariant-loop-node : goal.invariant-loop-node
invariant-loop-node l = l.numbers.items ≡ each_below numbered l.node
