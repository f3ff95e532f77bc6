use Rattle.std.proofs.Common.{sym, subst}
use Rattle.std.proofs.lemmas.Bool.{both_ways}
use Rattle.run_model.specs.Moments.{Moment, opening, next_moment}
use Rattle.run_model.specs.Orders.{PutsAreFair}
use Rattle.audit_frame.specs.declared.lines.Line.{Line}
use Rattle.audit_frame.proofs.Deciding.{each_at}
use Rattle.audit_schedule.specs.Fair.{IsFairSoFar, IsEarlyLine}
use Rattle.audit_schedule.specs.Puts.{TellsPuts}
use Rattle.audit_schedule.proofs.Fairly.{puts_go_by_steps}
use Rattle.audit_schedule.proofs.Taken.{tells_opening}
use Rattle.audit_frame.proofs.Walking.{state_at, wrong_here, right_here, state_next, all_right}
use Rattle.audit_schedule.proofs.puts.first_unfair_put.Goals as goal

pub loop-i-init : goal.loop-i-init
loop-i-init c = record {
  tells = tells_opening _ _ _ _ c.new-so_far.ensures.seats c.new-so_far.ensures.stopped c.new-so_far.ensures.put c.new-so_far.ensures.believed;
  right = tt;
}

pub allows-requires : goal.allows-requires
allows-requires c =
    let x = c.line_at-line.result in
    subst (λ (l : Line). IsEarlyLine l) (c.line_at-line.ensures x) (each_at IsEarlyLine c.args.log.now c.loop-i.i x c.requires c.loop-i-test.true)

pub returns-then-not-allows : goal.returns-then-not-allows
returns-then-not-allows c =
    let p = c.args.plan.now.params in
    let orders = c.args.orders.now in
    let lines = c.args.log.now in
    let here = c.allows.ensures orders (state_at next_moment opening lines c.loop-i.i) c.in_ok-asks.ensures c.loop-i.invariant.tells in
    wrong_here (PutsAreFair p orders) (IsFairSoFar p orders) next_moment opening (puts_go_by_steps p orders) lines c.loop-i.i
    c.line_at-line.result c.loop-i-test.true c.line_at-line.ensures c.loop-i.invariant.right
    (λ r. both_ways c.allows.result c.if-not-allows.true (here.1 r))

pub loop-i-preserved : goal.loop-i-preserved
loop-i-preserved c =
    let p = c.args.plan.now.params in
    let orders = c.args.orders.now in
    let lines = c.args.log.now in
    let x = c.line_at-line.result in
    let now = state_at next_moment opening lines c.loop-i.i in
    let here = c.allows.ensures orders now c.in_ok-asks.ensures c.loop-i.invariant.tells in
    record {
      tells = subst (λ (m : Moment). TellsPuts c.take.new.self.seats c.take.new.self.stopped c.take.new.self.put c.take.new.self.believed m)
          (sym (state_next next_moment opening lines c.loop-i.i x c.loop-i-test.true c.line_at-line.ensures))
          (c.in_ok-take.ensures now c.loop-i.invariant.tells);
      right = right_here (IsFairSoFar p orders) next_moment opening lines c.loop-i.i x c.loop-i-test.true c.line_at-line.ensures
          c.loop-i.invariant.right (here.0 c.if-not-allows.false);
    }

pub returns : goal.returns
returns c =
    let p = c.args.plan.now.params in
    let orders = c.args.orders.now in
    all_right (PutsAreFair p orders) (IsFairSoFar p orders) next_moment opening (puts_go_by_steps p orders) c.args.log.now c.loop-i.i
    c.loop-i-test.false c.loop-i.invariant.right
