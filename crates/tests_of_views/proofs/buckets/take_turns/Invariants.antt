use Rattle.std.proofs.Common.{◌≡◌}
use Rattle.slot_plan.specs.Samples.{small}
use Rattle.tests_of_views.proofs.buckets.take_turns.Given as goal

abbrev pub invariant-loop-n : goal.invariant-loop-n
invariant-loop-n l = l.view.params ≡ small
