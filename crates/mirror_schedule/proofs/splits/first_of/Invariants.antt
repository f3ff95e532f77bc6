use Rattle.std.proofs.Common.{◌≡◌, true, take}
use Rattle.mirror_schedule.specs.Splits.{HasOneOf, IsSoonestOf}
use Rattle.mirror_schedule.proofs.splits.first_of.Given as goal

abbrev pub invariant-loop-i : goal.invariant-loop-i
invariant-loop-i l = record {
  soonest : IsSoonestOf l.instance l.items.items l.i l.first;
  only : l.only ≡ true → HasOneOf l.instance (take l.i l.items.items);
}
