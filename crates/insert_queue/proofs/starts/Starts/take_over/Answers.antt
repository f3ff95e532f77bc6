use Rattle.insert_queue.proofs.Kept.{kept_all}
use Rattle.insert_queue.proofs.starts.Starts.take_over.Goals as goal

pub invariant_of-self-2 : goal.invariant_of-self-2
invariant_of-self-2 c =
    let all = rw c.deref.ensures.value at c.in_ok-put_all_in.ensures.ok in
    rw (c.clear.ensures.items, c.in_ok-extend_from_slice.ensures.items, c.deref-2.ensures.value)
    (kept_all c.self.inside.disks.items c.self.inside.asked.items c.self.inside.waiting.items c.self.inside.redundant.items c.self.invariant c.put_all_in.new.disks.items c.put_all_in.ensures.stay all)
