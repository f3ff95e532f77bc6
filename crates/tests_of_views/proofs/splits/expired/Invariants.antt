use Rattle.std.specs.List.{AllByRecursion}
use Rattle.slot_plan.specs.Samples.{small}
use Rattle.mirror_schedule.specs.Splits.{IsSplitOf}
use Rattle.tests_of_views.proofs.splits.expired.Given as goal

abbrev pub invariant-loop-visit : goal.invariant-loop-visit
invariant-loop-visit l = AllByRecursion (IsSplitOf small) l.splits
