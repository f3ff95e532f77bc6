use Rattle.std.proofs.Common.{◌≡◌, length}
use Rattle.ring_workers.specs.Ends.{AreNamed, AreSlots}
use Rattle.ring_workers.proofs.making.make_shares.Given as goal

abbrev pub invariant-loop-share : goal.invariant-loop-share
invariant-loop-share g l = record {
  count : length l.locks.items ≡ l.share;
  slots : AreSlots g.W.Named.opening l.slots.items;
  outs : AreNamed g.W.Named.line l.outs.items;
  ins : AreNamed g.W.Named.line l.ins.items;
}
