use Rattle.deschedule.proofs.Ends.{held_passed}
use Rattle.deschedule.proofs.Order.{order_pass}
use Rattle.deschedule.proofs.held.Held.set_passed.Goals as goal

pub invariant_of-self : goal.invariant_of-self
invariant_of-self c =
    rw c.pass_on.ensures (record {
      held = held_passed c.self.inside.none_ends_before c.self.inside.held.items c.self.inside.unpassed.items c.self.inside.holds.items c.self.invariant.held c.set_mark.new.marks.items c.args.instance c.set_mark.ensures;
      order = λ so. order_pass c.self.inside.holds.items c.args.instance (c.self.invariant.order so);
    })

pub pass_on-requires : goal.pass_on-requires
pass_on-requires c = c.self.invariant.held.once
