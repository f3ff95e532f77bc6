use Rattle.std.proofs.Common.{sym, subst}
use Rattle.std.proofs.lemmas.Bool.{both_ways}
use Rattle.audit_frame.specs.Lines.{noted_line}
use Rattle.run_model.specs.Moments.{Moment, opening, next_moment}
use Rattle.run_model.specs.Parts.{ViewsArePart}
use Rattle.audit_frame.proofs.Rising.{early_moment}
use Rattle.audit_frame.proofs.Walking.{state_at, wrong_here, right_here, state_next, all_right}
use Rattle.audit_views.specs.Local.{TellsBrought}
use Rattle.audit_views.specs.Verdicts.{ArePartAndLocal}
use Rattle.audit_views.specs.Views.{TellsViews}
use Rattle.audit_views.proofs.Bringing.{opening_brought}
use Rattle.audit_views.proofs.Steps.{opening_part}
use Rattle.audit_views.proofs.Taking.{tells_opening}
use Rattle.audit_views.proofs.Walk.{IsFine, both_go_by_steps, both_judged}
use Rattle.audit_views.proofs.views.first_false_view.Goals as goal

pub loop-i-init : goal.loop-i-init
loop-i-init c = record {
  tells = tells_opening c.args.plan.now.params _ _ _ _ _ c.new-so_far.ensures.seats c.new-so_far.ensures.latest
      c.new-so_far.ensures.stops c.new-so_far.ensures.records c.new-so_far.ensures.beat;
  came = opening_brought c.args.plan.now.params _ c.new-brought.ensures;
  part = opening_part c.args.plan.now.params;
  right = tt;
}

pub returns-then-not-fine : goal.returns-then-not-fine
returns-then-not-fine c =
    let p = c.args.plan.now.params in
    let lines = c.args.log.now in
    let x = c.line_at-line.result in
    let now = state_at next_moment opening lines c.loop-i.i in
    let was = c.loop-i.invariant in
    let early = early_moment lines c.loop-i.i x c.loop-i-test.true c.line_at-line.ensures c.requires in
    let here = both_judged p now (noted_line x) c.is_local-local.result c.in_ok-part.part c.are_both-fine.result c.are_both-fine.ensures
    (c.is_local-local.ensures now was.tells.records was.came) (c.in_ok-part.ensures.part now was.tells early was.part) in
    wrong_here (ArePartAndLocal p) (IsFine p) next_moment opening (both_go_by_steps p) lines c.loop-i.i x c.loop-i-test.true
    c.line_at-line.ensures was.right (λ r. both_ways c.are_both-fine.result c.if-not-fine.true (here.1 r))

pub loop-i-preserved : goal.loop-i-preserved
loop-i-preserved c =
    let p = c.args.plan.now.params in
    let lines = c.args.log.now in
    let x = c.line_at-line.result in
    let now = state_at next_moment opening lines c.loop-i.i in
    let was = c.loop-i.invariant in
    let early = early_moment lines c.loop-i.i x c.loop-i-test.true c.line_at-line.ensures c.requires in
    let here = both_judged p now (noted_line x) c.is_local-local.result c.in_ok-part.part c.are_both-fine.result c.are_both-fine.ensures
    (c.is_local-local.ensures now was.tells.records was.came) (c.in_ok-part.ensures.part now was.tells early was.part) in
    let next = sym (state_next next_moment opening lines c.loop-i.i x c.loop-i-test.true c.line_at-line.ensures) in
    let fine = here.0 c.if-not-fine.false in
    record {
      tells = subst (λ (m : Moment). TellsViews p c.step.new.self.seats c.step.new.self.latest c.step.new.self.stops.items
          c.step.new.self.records c.step.new.self.beat m) next
          (c.in_ok-part.ensures.tells now was.tells early);
      came = subst (λ (m : Moment). TellsBrought p c.keep_brought.new.brought m) next (c.in_ok-keep_brought.ensures now was.came);
      part = subst (λ (m : Moment). ViewsArePart p m) next fine.0;
      right = right_here (IsFine p) next_moment opening lines c.loop-i.i x c.loop-i-test.true c.line_at-line.ensures was.right fine;
    }

pub returns : goal.returns
returns c =
    let p = c.args.plan.now.params in
    all_right (ArePartAndLocal p) (IsFine p) next_moment opening (both_go_by_steps p) c.args.log.now c.loop-i.i c.loop-i-test.false
    c.loop-i.invariant.right
