use Rattle.std.proofs.Common.{List, [], sym, subst}
use Rattle.std.proofs.lemmas.Bool.{both_ways}
use Rattle.run_facts.specs.Order.{Noted}
use Rattle.run_claims.specs.Turns.{AreInTurn}
use Rattle.audit_schedule.specs.Turns.{IsInTurnHere, TellsTurns, with_entry}
use Rattle.audit_schedule.proofs.Marked.{no_turns}
use Rattle.audit_schedule.proofs.Timing.{early_front}
use Rattle.audit_schedule.proofs.Turning.{turns_go_by_steps}
use Rattle.audit_frame.proofs.Walking.{state_at, wrong_here, right_here, state_next, all_right}
use Rattle.audit_schedule.proofs.turns.first_out_of_turn.Goals as goal

pub loop-i-init : goal.loop-i-init
loop-i-init c = record {
  tells = no_turns c.args.plan.now.params _ _ _ c.new-turns.ensures.latest c.new-turns.ensures.last c.new-turns.ensures.lowest;
  right = tt;
}

pub returns-then-not-allows : goal.returns-then-not-allows
returns-then-not-allows c =
    let p = c.args.plan.now.params in
    let lines = c.args.log.now in
    let x = c.line_at-line.result in
    let early = early_front lines c.loop-i.i x c.loop-i-test.true c.line_at-line.ensures c.requires in
    let here = c.allows.ensures p (state_at with_entry [] lines c.loop-i.i) c.viewers_in-viewers.ensures early c.loop-i.invariant.tells in
    wrong_here (AreInTurn p) (IsInTurnHere p) with_entry [] (turns_go_by_steps p) lines c.loop-i.i x c.loop-i-test.true c.line_at-line.ensures
    c.loop-i.invariant.right (λ r. both_ways c.allows.result c.if-not-allows.true (here.1 r))

pub loop-i-preserved : goal.loop-i-preserved
loop-i-preserved c =
    let p = c.args.plan.now.params in
    let lines = c.args.log.now in
    let x = c.line_at-line.result in
    let now = state_at with_entry [] lines c.loop-i.i in
    let early = early_front lines c.loop-i.i x c.loop-i-test.true c.line_at-line.ensures c.requires in
    let here = c.allows.ensures p now c.viewers_in-viewers.ensures early c.loop-i.invariant.tells in
    record {
      tells = subst (λ (front : List Noted). TellsTurns p c.take.new.self.latest c.take.new.self.last c.take.new.self.lowest front)
          (sym (state_next with_entry [] lines c.loop-i.i x c.loop-i-test.true c.line_at-line.ensures))
          (c.in_ok-take.ensures p now c.viewers_in-viewers.ensures early c.loop-i.invariant.tells);
      right = right_here (IsInTurnHere p) with_entry [] lines c.loop-i.i x c.loop-i-test.true c.line_at-line.ensures c.loop-i.invariant.right
          (here.0 c.if-not-allows.false);
    }

pub returns : goal.returns
returns c =
    let p = c.args.plan.now.params in
    all_right (AreInTurn p) (IsInTurnHere p) with_entry [] (turns_go_by_steps p) c.args.log.now c.loop-i.i c.loop-i-test.false c.loop-i.invariant.right
