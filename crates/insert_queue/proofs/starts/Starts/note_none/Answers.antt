use Rattle.std.proofs.Common.{◌≡◌, None, subst, sym}
use Rattle.insert_queue.specs.Queues.{Queues, oldest_for}
use Rattle.insert_queue.proofs.Fors.{for_others}
use Rattle.insert_queue.proofs.starts.Starts.note_none.Goals as goal

pub invariant_of-self : goal.invariant_of-self
invariant_of-self c =
    let none = subst (λ (q : Queues). oldest_for q.waiting c.args.disk ≡ None) (sym c.self.view_is) c.requires.none in
    record {
      once = c.self.invariant.once;
      all_for = rw c.take_out.ensures (for_others c.self.inside.disks.items c.self.inside.waiting.items c.args.disk c.self.invariant.all_for none);
      marked = c.self.invariant.marked;
    }
