use Rattle.run_model.specs.Moments.{opening, next_moment}
use Rattle.run_model.specs.Parts.{ViewsArePart}
use Rattle.audit_frame.proofs.Walking.{state_at, AreRight}
use Rattle.audit_views.specs.Local.{TellsBrought}
use Rattle.audit_views.specs.Views.{TellsViews}
use Rattle.audit_views.proofs.Walk.{IsFine}
use Rattle.audit_views.proofs.views.first_false_view.Given as goal

-- the tables tell the moment so far, at which all views are part, and what was brought; and the entries so far are fine
abbrev pub invariant-loop-i : goal.invariant-loop-i
invariant-loop-i l = record {
  tells : TellsViews l.plan.params l.so_far.seats l.so_far.latest l.so_far.stops.items l.so_far.records l.so_far.beat
      (state_at next_moment opening l.log l.i);
  came : TellsBrought l.plan.params l.brought (state_at next_moment opening l.log l.i);
  part : ViewsArePart l.plan.params (state_at next_moment opening l.log l.i);
  right : AreRight (IsFine l.plan.params) next_moment opening l.log l.i;
}
