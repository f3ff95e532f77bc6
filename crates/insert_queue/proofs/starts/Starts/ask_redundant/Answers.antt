use Rattle.std.proofs.Common.{◌≡◌, false, subst, sym}
use Rattle.insert_queue.specs.Queues.{Queues, is_asked}
use Rattle.insert_queue.proofs.Kept.{kept_redundant}
use Rattle.insert_queue.proofs.starts.Starts.ask_redundant.Goals as goal

pub invariant_of-self-2 : goal.invariant_of-self-2
invariant_of-self-2 c =
    let e : is_asked c.args.self.now c.args.ask.instance ≡ false = cc in
    kept_redundant c.self.inside.disks.items c.self.inside.asked.items c.self.inside.waiting.items c.self.inside.redundant.items c.self.invariant
    c.args.ask c.make_place.new.marks.items c.set_mark.new.marks.items (subst (λ (q : Queues). is_asked q c.args.ask.instance ≡ false) (sym c.self.view_is) e) c.make_place.ensures.same c.in_ok-make_place.ensures.ok c.set_mark.ensures
    _ c.in_ok-push.ensures.items
