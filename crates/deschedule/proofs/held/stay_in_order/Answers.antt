use Rattle.std.proofs.Common.{ℕ, ◌-◌, ◌∙◌, get_or, ap, refl, arith}
use Rattle.std.proofs.lemmas.Bool.{leb-true}
use Rattle.deschedule.proofs.Order.{order_more, order_one}
use Rattle.deschedule.proofs.held.stay_in_order.Goals as goal

pub returns-then-in_order : goal.returns-then-in_order
returns-then-in_order c = λ so h e.
    let items = c.args.holds.now.items in
    order_more items c.in-Some.last.now h (c.requires c.if-in_order.true)
    (c.in-Some.ensures.lookup ∙ ap (λ (n : ℕ). get_or items (n - 1) c.in-Some.last.now) c.args.holds.now.ok.0)
    (omega (arith, c.in-Some.ensures.variant.0 refl, c.args.holds.now.ok.0))
    (omega (arith, leb-true _ _ so, e))

pub returns-in-None : goal.returns-in-None
returns-in-None c = λ so h e. order_one _ c.args.holds.now.items h c.args.holds.now.ok.0 (λ l. cc (c.in-None.ensures.variant.1 l))
