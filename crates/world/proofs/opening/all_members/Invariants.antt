use Rattle.std.proofs.Common.{◌≡◌, map}
use Rattle.ring_world.specs.Machine.{being}
use Rattle.world.proofs.opening.all_members.Given as goal

-- A member for each node so far.
abbrev pub invariant-loop-node : goal.invariant-loop-node
invariant-loop-node g l = l.members.items ≡ map being l.yielded
