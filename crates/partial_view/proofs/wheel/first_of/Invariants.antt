use Rattle.std.proofs.Common.{◌≡◌, ◌≤◌, length, drop}
use Rattle.partial_view.specs.Views.{first_of}
use Rattle.partial_view.specs.Wheel.{all_lines}
use Rattle.partial_view.proofs.wheel.first_of.Given as goal

abbrev pub invariant-loop-i : goal.invariant-loop-i
invariant-loop-i l = record {
  least : l.from ≤ l.i;
  bound : l.i ≤ length l.buckets;
  best : l.best ≡ first_of l.instance (all_lines l.plan.params (drop l.i l.buckets));
}
