use Rattle.std.proofs.Common.{◌≡◌}
use Rattle.ring_world.specs.Machine.{empty_ways}
use Rattle.world.proofs.opening.all_channels.Given as goal

-- A channel for each number so far.
abbrev pub invariant-loop-link : goal.invariant-loop-link
invariant-loop-link g l = l.channels.items ≡ empty_ways l._link
