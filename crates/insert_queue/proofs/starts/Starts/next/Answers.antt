use Rattle.std.proofs.Common.{◌≡◌, None, false, subst, sym}
use Rattle.insert_queue.specs.Queues.{Queues, has_disk, oldest_for}
use Rattle.insert_queue.proofs.Fors.{none_for}
use Rattle.insert_queue.proofs.starts.Starts.next.Goals as goal

pub returns-then-not-has_disk : goal.returns-then-not-has_disk
returns-then-not-has_disk c =
    let e : has_disk c.self.inside.disks.items c.args.disk ≡ false = cc in
    subst (λ (q : Queues). None ≡ oldest_for q.waiting c.args.disk) c.self.view_is
    (sym (none_for c.self.inside.disks.items c.self.inside.waiting.items c.args.disk c.self.invariant.all_for e))
