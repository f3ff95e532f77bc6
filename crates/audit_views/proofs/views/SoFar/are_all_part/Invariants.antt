use Rattle.std.proofs.Common.{ℕ, ◌<◌, ◌≤◌}
use Rattle.std.specs.Prelude.{slice_index_or}
use Rattle.run_model.specs.Moments.{Moment}
use Rattle.audit_views.specs.Views.{IsInstancePart, TellsViews}
use Rattle.audit_views.specs.declared.views.Stopped.{Stopped}
use Rattle.audit_views.proofs.views.SoFar.are_all_part.Given as goal

-- the records of each instance before this place are part
abbrev pub invariant-loop-at : goal.invariant-loop-at
invariant-loop-at l = record {
  up : l.from ≤ l.at;
  part : (m : Moment)
      → TellsViews l.plan.params l.self.seats l.self.latest l.self.stops.items l.self.records l.self.beat m
      → (j : ℕ) (d : Stopped) → l.from ≤ j → j < l.at
      → IsInstancePart l.plan.params m (slice_index_or l.self.stops.items j d).instance.0;
}
