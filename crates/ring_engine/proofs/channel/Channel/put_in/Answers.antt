use Rattle.std.proofs.Common.{ap, ◌∙◌, sym, subst, arith}
use Rattle.ring_engine.specs.Quiet.{AreInOrder}
use Rattle.ring_engine.proofs.Looking.{order-put}
use Rattle.ring_engine.proofs.channel.Channel.put_in.Goals as goal
use Rattle.ring_engine.proofs.channel.Channel.put_in.Goals.{then-capacity-len+in_ok-make_room, else-capacity-len}

pub invariant_of-self : goal.invariant_of-self
invariant_of-self g c = subst (AreInOrder c.self.inside.last) (sym c.make_room.ensures.same) c.self.invariant

pub invariant_of-self-2 : goal.invariant_of-self-2
invariant_of-self-2 g c =
    elim c.if-capacity-len.branch [
      | then-capacity-len+in_ok-make_room w ↦
          order-put c.self.inside.last c.args.flight _ _ _ (omega (arith, c.if-flight-self.false))
          (ap (λ i. i.flights.items) w.self-inside-is ∙ w.make_room.ensures.same) c.push_back_reserved.ensures.items c.self.invariant
      | else-capacity-len w ↦
          order-put c.self.inside.last c.args.flight _ _ _ (omega (arith, c.if-flight-self.false))
          (ap (λ i. i.flights.items) w.self-inside-is) c.push_back_reserved.ensures.items c.self.invariant
    ]
