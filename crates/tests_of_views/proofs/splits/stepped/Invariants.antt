use Rattle.std.specs.List.{AllByRecursion}
use Rattle.slot_plan.specs.Samples.{small}
use Rattle.mirror_schedule.specs.Splits.{IsSplitOf}
use Rattle.tests_of_views.proofs.splits.stepped.Given as goal

abbrev pub invariant-loop-step : goal.invariant-loop-step
invariant-loop-step l = AllByRecursion (IsSplitOf small) l.splits
