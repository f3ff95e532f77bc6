use Rattle.std.proofs.Common.{take}
use Rattle.insert_queue.specs.Queues.{AllStay, AreFor}
use Rattle.insert_queue.proofs.disks.put_all_in.Given as goal

abbrev pub invariant-loop-ask : goal.invariant-loop-ask
invariant-loop-ask l = record {
  stay : AllStay l.fn.disks.items l.disks.items;
  all : AreFor l.disks.items (take l.ask-index l.asks);
}
