use Rattle.std.proofs.Common.{◌≡◌, ◌≤◌, length, drop}
use Rattle.partial_view.specs.Views.{next_behind}
use Rattle.partial_view.specs.Wheel.{all_lines}
use Rattle.partial_view.proofs.wheel.soonest_behind.Given as goal

abbrev pub invariant-loop-i : goal.invariant-loop-i
invariant-loop-i l = record {
  bound : l.i ≤ length l.buckets;
  best : l.best ≡ next_behind l.plan.params l.key (all_lines l.plan.params (drop l.i l.buckets));
}
