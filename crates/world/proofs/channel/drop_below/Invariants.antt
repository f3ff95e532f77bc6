use Rattle.std.proofs.Common.{◌≡◌, length}
use Rattle.ring_world.specs.Machine.{dropped}
use Rattle.world.specs.Posting.{IsInOrder}
use Rattle.world.proofs.channel.drop_below.Given as goal

-- What is to be lost of the rest is what is to be lost of all.
abbrev pub invariant-loop-channel : goal.invariant-loop-channel
invariant-loop-channel g l = record {
  same : dropped l.beat l.channel ≡ dropped l.beat l.fn.channel;
  order : IsInOrder l.channel;
}

abbrev pub decreases-loop-channel : goal.decreases-loop-channel
decreases-loop-channel g l = length l.channel.under_way
