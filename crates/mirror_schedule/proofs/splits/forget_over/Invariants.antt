use Rattle.std.proofs.Common.{◌≡◌, ◌≤◌, ◌++◌, length, take, drop, not, count_by}
use Rattle.std.specs.List.{filter}
use Rattle.mirror_schedule.specs.Splits.{is_over}
use Rattle.mirror_schedule.proofs.splits.forget_over.Given as goal

abbrev pub invariant-loop-i : goal.invariant-loop-i
invariant-loop-i l = record {
  bound : l.i ≤ length l.fn.items.items;
  rest : l.items.items ≡ take l.i l.fn.items.items ++ filter (λ x. not (is_over l.plan.params l.reading x.0)) (drop l.i l.fn.items.items);
  count : l.count ≡ count_by (λ x. is_over l.plan.params l.reading x.0) (drop l.i l.fn.items.items);
}
