use Rattle.std.proofs.Common.{◌≡◌, ◌∙◌, ℕ, ◌-◌, List, sym, ap, subst, arith}
use Rattle.net_schedule.specs.Worlds.{WorldState}
use Rattle.net_read.specs.declared.plan.NetOrder.{NetOrder}
use Rattle.net_run.specs.Runs.{Running, run_to, run_of, standings}
use Rattle.net_run.specs.Sent.{IsAtStep}
use Rattle.net_run.proofs.Asked.{asks_to, each_stands}
use Rattle.net_run.proofs.Beside.{IsBeside, first_beside, next_beside, standings_same}
use Rattle.net_run.proofs.Steps.{at_first, shortly_stepped_ring}
use Rattle.net_run.proofs.run.run_net.Goals as goal

pub loop-step-init : goal.loop-step-init
loop-step-init c =
    let world = ap (λ (r : Running). r.scene.world) c.in_ok-run.ensures in
    record {
      beside = first_beside c.args.plan.now c.in_ok-run.run' c.is_sound.ensures.ring c.in_ok-run.ensures;
      ring = ap (λ (w : WorldState). w.ring) world;
      at = subst (λ (w : WorldState). IsAtStep w c.args.plan.now.orders 0 0) (sym world) (at_first c.args.plan.now.ring c.args.plan.now.steps c.args.plan.now.orders c.is_sound.ensures.orders);
    }

pub loop-step-preserved : goal.loop-step-preserved
loop-step-preserved c = record {
  beside = next_beside c.args.plan.now c.loop-step.run c.take_step.new.run c.loop-step.step c.loop-step.next (omega (arith, c.loop-step-test.true, c.steps-step-end.ensures)) c.loop-step.invariant.beside c.loop-step.invariant.ring c.loop-step.invariant.at c.in_ok-next.ensures.stepped;
  ring = ap (λ (r : Running). r.scene.world.ring) c.in_ok-next.ensures.stepped ∙ shortly_stepped_ring c.args.plan.now c.loop-step.run c.loop-step.step ∙ c.loop-step.invariant.ring;
  at = c.in_ok-next.ensures.next;
}

-- once all steps are over
over : (c : goal.After-new-2) → IsBeside (c.args.plan.now.steps - c.args.plan.now.steps) (asks_to c.args.plan.now.orders c.args.plan.now.steps) (run_of c.args.plan.now) c.loop-step.run
over c =
    let last : c.loop-step.step ≡ c.args.plan.now.steps = omega (arith, c.loop-step.auto.step-end, c.loop-step-test.false, c.steps-step-end.ensures) in
    subst (λ (n : ℕ). IsBeside (c.args.plan.now.steps - n) (asks_to c.args.plan.now.orders n) (run_to c.args.plan.now n) c.loop-step.run) last c.loop-step.invariant.beside

pub returns-clause-entries : goal.returns-clause-entries
returns-clause-entries c =
    let end = over c in
    c.new-2.ensures ∙ c.in_ok-entries.ensures ∙ ap (λ (os : List NetOrder). standings os c.world.result.now) c.orders.ensures
    ∙ ap (λ (w : WorldState). standings c.args.plan.now.orders w) c.world.ensures.world
    ∙ standings_same c.args.plan.now.orders (run_of c.args.plan.now).scene.world c.loop-step.run.scene.world end.ring end.cubs

pub returns-clause-always : goal.returns-clause-always
returns-clause-always c = (over c).always

pub returns-clause-stands : goal.returns-clause-stands
returns-clause-stands c =
    each_stands (run_of c.args.plan.now).scene.world c.args.plan.now.ring c.args.plan.now.steps c.args.plan.now.orders c.is_sound.ensures.orders.each (over c).asked
