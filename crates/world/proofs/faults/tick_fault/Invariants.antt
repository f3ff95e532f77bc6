use Rattle.std.proofs.Common.{◌≡◌, drop}
use Rattle.ring_world.specs.Faults.{least_late}
use Rattle.world.proofs.faults.tick_fault.Given as goal

-- What is late behind is what is late in all.
abbrev pub invariant-loop-l : goal.invariant-loop-l
invariant-loop-l g l = least_late l.plan.params l.node.0 l.beat l.l (drop l.l l.channels) ≡ least_late l.plan.params l.node.0 l.beat 0 l.channels
