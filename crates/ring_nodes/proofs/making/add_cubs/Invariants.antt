use Rattle.std.proofs.Common.{◌≡◌, ◌++◌}
use Rattle.ring_nodes.specs.AllNodes.{numbered, opening_cub}
use Rattle.ring_nodes.proofs.making.add_cubs.Given as goal

abbrev pub invariant-loop-cub : goal.invariant-loop-cub
invariant-loop-cub g l = l.nodes.items ≡ l.fn.nodes.items ++ numbered (opening_cub l.plan.params) l.cub
