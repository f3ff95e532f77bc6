use Rattle.std.proofs.Common.{◌≡◌, ◌≤◌, length, nat_le, not}
use Rattle.std.specs.List.{filter}
use Rattle.mirror_schedule.specs.Splits.{ends_before}
use Rattle.mirror_schedule.specs.Sorted.{IsSorted}
use Rattle.mirror_schedule.proofs.splits.forget_ended.Given as goal

abbrev pub invariant-loop : goal.invariant-loop
invariant-loop l = record {
  order : IsSorted ends_before l.items.items;
  shorter : length l.items.items ≤ length l.fn.items.items;
  left : filter (λ x. not (nat_le x.1 l.reading)) l.items.items ≡ filter (λ x. not (nat_le x.1 l.reading)) l.fn.items.items;
}

abbrev pub decreases-loop : goal.decreases-loop
decreases-loop l = length l.items.items
