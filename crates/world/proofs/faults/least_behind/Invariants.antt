use Rattle.std.proofs.Common.{◌≡◌, drop}
use Rattle.ring_world.specs.Faults.{least_behind}
use Rattle.world.proofs.faults.least_behind.Given as goal

-- What is found behind is what is found in all.
abbrev pub invariant-loop-n : goal.invariant-loop-n
invariant-loop-n g l = least_behind l.now l.n (drop l.n l.members) ≡ least_behind l.now 0 l.members
