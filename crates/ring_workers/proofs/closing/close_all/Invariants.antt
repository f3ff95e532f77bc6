use Rattle.std.proofs.Common.{◌≡◌, ◌<◌, ℕ, true}
use Rattle.ring_workers.specs.Ends.{AreLeft, HasClosed}
use Rattle.ring_workers.specs.Sharing.{goes_between}
use Rattle.ring_workers.proofs.closing.close_all.Given as goal

abbrev pub invariant-loop-link : goal.invariant-loop-link
invariant-loop-link g l = record {
  outs : AreLeft l.fn.outs.items l.outs.items;
  ins : AreLeft l.fn.ins.items l.ins.items;
  closed : (k : ℕ) → k < l.link → goes_between l.links l.homes k ≡ true → HasClosed l.fn.outs.items l.fn.ins.items k;
}
