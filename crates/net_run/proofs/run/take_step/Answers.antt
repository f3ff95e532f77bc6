use Rattle.std.proofs.Common.{◌+◌, ◌∙◌, List, ap, subst}
use Rattle.net_schedule.specs.Worlds.{asked_at}
use Rattle.net_read.specs.declared.plan.NetOrder.{NetOrder}
use Rattle.net_run.specs.Runs.{Running, ordered}
use Rattle.net_run.specs.Sent.{IsAtStep}
use Rattle.net_run.proofs.Steps.{at_later, happened_ring, shortly_renewed_ring, delivered_ring}
use Rattle.net_run.proofs.run.take_step.Goals as goal

pub renew_at-requires-clause-ring : goal.renew_at-requires-clause-ring
renew_at-requires-clause-ring c = ap (λ (r : Running). r.scene.world.ring) c.in_ok-next.ensures.did ∙ happened_ring c.args.run.now (ordered c.orders.result.now c.args.step) ∙ c.requires.ring

pub returns-clause-next : goal.returns-clause-next
returns-clause-next c =
    let at = subst (λ (os : List NetOrder). IsAtStep c.do_orders.new.run.scene.world os (c.args.step + 1) c.in_ok-next.next) c.orders.ensures c.in_ok-next.ensures.next in
    let ring =
    ap (λ (r : Running). r.scene.world.ring) c.look.ensures ∙ ap (λ (r : Running). r.scene.world.ring) c.in_ok-deliver.ensures.delivered ∙ delivered_ring c.renew_at.new.run
    ∙ ap (λ (r : Running). r.scene.world.ring) c.in_ok-renew_at.ensures.renewed ∙ shortly_renewed_ring c.args.plan.now c.do_orders.new.run c.args.step in
    at_later c.do_orders.new.run.scene.world c.look.new.self.scene.world c.args.plan.now.orders (c.args.step + 1) c.in_ok-next.next at ring
    (λ u none. ap (λ (r : Running). asked_at r.scene.world u) c.look.ensures ∙ c.in_ok-deliver.ensures.new u (c.in_ok-renew_at.ensures.new u none))
