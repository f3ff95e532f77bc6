use Rattle.std.proofs.Common.{◌≡◌, false, take}
use Rattle.insert_queue.specs.Queues.{has_start}
use Rattle.insert_queue.proofs.starts.drop_from.Given as goal

abbrev pub invariant-loop-place : goal.invariant-loop-place
invariant-loop-place l = record {
  none : has_start (take l.place l.asks.items) l.instance ≡ false;
  same : l.asks.items ≡ l.fn.asks.items;
}
