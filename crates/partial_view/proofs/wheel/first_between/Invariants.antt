use Rattle.std.proofs.Common.{◌≡◌, ◌-◌, suc}
use Rattle.partial_view.specs.Wheel.{all_lines, IsTurnOf}
use Rattle.partial_view.specs.Work.{is_left, first_between}
use Rattle.partial_view.proofs.wheel.first_between.Given as goal

-- the first line that is due at the time that is reached, or later, is the first one of all
abbrev pub invariant-loop-start : goal.invariant-loop-start
invariant-loop-start l = record {
  first : first_between l.plan.params (is_left l.work) l.start l.to (all_lines l.plan.params l.buckets) ≡ first_between l.plan.params (is_left l.work) l.from l.to (all_lines l.plan.params l.buckets);
  turn : IsTurnOf l.plan.params l.start l.turn;
}

abbrev pub decreases-loop-start : goal.decreases-loop-start
decreases-loop-start l = suc l.to - l.start
