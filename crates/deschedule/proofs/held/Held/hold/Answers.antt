use Rattle.std.proofs.Common.{◌≡◌, ◌≤◌, false, List, arith, refl, subst, sym}
use Rattle.deschedule.specs.declared.held.Holding.{Holding}
use Rattle.deschedule.specs.Holds.{is_held}
use Rattle.deschedule.specs.Order.{AreHeldInOrder, EndInOrder}
use Rattle.deschedule.proofs.Ends.{held_more}
use Rattle.deschedule.proofs.held.Held.hold.Goals as goal
use Rattle.deschedule.proofs.held.Held.hold.Goals.{After-set_mark-2}

more : (c : After-set_mark-2) → is_held c.self.inside.holds.items c.args.instance ≡ false → (least : _) → least ≤ c.self.inside.none_ends_before → least ≤ c.args.until
    → AreHeldInOrder c.stay_in_order-in_order.result least c.set_mark.new.marks.items c.set_mark-2.new.marks.items c.push_back.new.self.items
more c new least below here = record {
  held =
      held_more c.self.inside.none_ends_before c.self.inside.held.items c.self.inside.unpassed.items c.self.inside.holds.items c.self.invariant.held least c.make_place.new.marks.items c.make_place-2.new.marks.items _ _ _ c.args.instance c.args.until new
      c.make_place.ensures.same c.in_ok-make_place.ensures.ok c.set_mark.ensures c.make_place-2.ensures.same c.in_ok-make_place-2.ensures.ok c.set_mark-2.ensures c.in_ok-push_back.ensures.items below here;
  order = λ so. subst (λ (hs : List Holding). EndInOrder hs) (sym c.in_ok-push_back.ensures.items) (c.stay_in_order-in_order.ensures so _ refl);
}

pub invariant_of-self-then-until-self : goal.invariant_of-self-then-until-self
invariant_of-self-then-until-self c =
    more (goal.at.invariant_of-self-then-until-self c).After-set_mark-2 (cc) c.args.until (omega (arith, c.if-until-self.true)) (omega arith)

pub invariant_of-self-else-until-self : goal.invariant_of-self-else-until-self
invariant_of-self-else-until-self c =
    more (goal.at.invariant_of-self-else-until-self c).After-set_mark-2 (cc) c.self.inside.none_ends_before (omega arith) (omega (arith, c.if-until-self.false))

pub stay_in_order-in_order-requires : goal.stay_in_order-in_order-requires
stay_in_order-in_order-requires c = c.self.invariant.order
