use Rattle.std.proofs.Common.{List, [], sym, subst}
use Rattle.std.proofs.lemmas.Bool.{both_ways}
use Rattle.run_facts.specs.Order.{Noted}
use Rattle.run_claims.specs.Visits.{AreServedOnce}
use Rattle.audit_frame.proofs.Walking.{state_at, wrong_here, right_here, state_next, all_right}
use Rattle.audit_visits.specs.Once.{TellsServed, front_with}
use Rattle.audit_visits.proofs.Keeping.{nothing_served}
use Rattle.audit_visits.proofs.Stepping.{ServesOnce, served_by_steps}
use Rattle.audit_visits.proofs.visits.first_served_twice.Goals as goal

pub loop-i-init : goal.loop-i-init
loop-i-init c = record {
  tells = nothing_served _ _ _ c.new-served.ensures.sent c.new-served.ensures.asked c.new-served.ensures.dead;
  right = tt;
}

pub returns-then-not-allows : goal.returns-then-not-allows
returns-then-not-allows c =
    let p = c.args.plan.now.params in
    let lines = c.args.log.now in
    let here = c.allows.ensures (state_at front_with [] lines c.loop-i.i) c.loop-i.invariant.tells in
    wrong_here (AreServedOnce p) (ServesOnce p) front_with [] (served_by_steps p) lines c.loop-i.i c.line_at-line.result
    c.loop-i-test.true c.line_at-line.ensures c.loop-i.invariant.right (λ r. both_ways c.allows.result c.if-not-allows.true (here.1 r))

pub loop-i-preserved : goal.loop-i-preserved
loop-i-preserved c =
    let p = c.args.plan.now.params in
    let lines = c.args.log.now in
    let x = c.line_at-line.result in
    let front = state_at front_with [] lines c.loop-i.i in
    let once = (c.allows.ensures front c.loop-i.invariant.tells).0 c.if-not-allows.false in
    record {
      tells = subst (λ (log : List Noted). TellsServed c.take.new.self.sent c.take.new.self.asked c.take.new.self.dead log)
          (sym (state_next front_with [] lines c.loop-i.i x c.loop-i-test.true c.line_at-line.ensures))
          (c.in_ok-take.ensures p front c.loop-i.invariant.tells once);
      right = right_here (ServesOnce p) front_with [] lines c.loop-i.i x c.loop-i-test.true c.line_at-line.ensures
          c.loop-i.invariant.right once;
    }

pub returns : goal.returns
returns c =
    let p = c.args.plan.now.params in
    all_right (AreServedOnce p) (ServesOnce p) front_with [] (served_by_steps p) c.args.log.now c.loop-i.i c.loop-i-test.false
    c.loop-i.invariant.right
