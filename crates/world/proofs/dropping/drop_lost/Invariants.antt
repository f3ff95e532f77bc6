use Rattle.std.proofs.Common.{◌≡◌, ◌++◌, ℕ, ◌≤◌, Some, take, drop, length}
use Rattle.std.specs.Prelude.{slice_get}
use Rattle.ring_world.specs.Machine.{Way, each_at}
use Rattle.world.specs.Dropping.{freed}
use Rattle.world.specs.Posting.{IsInOrder}
use Rattle.world.proofs.dropping.drop_lost.Given as goal

-- What is done, and what is left to do, make all of it; and what is left is in order.
abbrev pub invariant-loop-l : goal.invariant-loop-l
invariant-loop-l g l = record {
  same : take l.l l.channels.items ++ each_at (freed l.plan.params l.node.0 l.beat) l.l (drop l.l l.channels.items)
      ≡ each_at (freed l.plan.params l.node.0 l.beat) 0 l.fn.channels.items;
  order : (k : ℕ) (w : Way g.row.M.Denot) → l.l ≤ k → slice_get l.channels.items k ≡ Some w → IsInOrder w;
  size : length l.channels.items ≡ length l.fn.channels.items;
}
