use Rattle.std.proofs.Common.{◌≡◌, ◌-◌, suc, length}
use Rattle.partial_view.specs.Wheel.{all_lines, IsWheel}
use Rattle.partial_view.proofs.wheel.grow.Given as goal

abbrev pub invariant-loop-alloc : goal.invariant-loop-alloc
invariant-loop-alloc l = record {
  wheel : IsWheel l.plan.params l.buckets.items;
  lines : all_lines l.plan.params l.buckets.items ≡ all_lines l.plan.params l.fn.buckets.items;
}

abbrev pub decreases-loop-alloc : goal.decreases-loop-alloc
decreases-loop-alloc l = suc l.place - length l.buckets.items
